use Rattle.csv_epochs.proofs.open.Open.end_row.Goals as goal

pub returns : goal.returns
returns c =
    let other = c.goes_on.ensures.ends c.if-goes_on.false in
    (c.hand_out.new.self, c.in_ok-epoch.ensures, c.in_ok-keep_row-2.ensures, other.0, other.1)
