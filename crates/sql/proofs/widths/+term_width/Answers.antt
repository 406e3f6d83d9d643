use Rattle.sql.proofs.widths.+term_width.Goals as goal

pub returns-in_ok-left-in-JoinLeft : goal.returns-in_ok-left-in-JoinLeft
returns-in_ok-left-in-JoinLeft g t c =
    rw c.in-JoinLeft.is (rw (rw c.deref-in-JoinLeft.ensures at c.in_ok-left-in-JoinLeft.ensures, c.table_width.ensures) at c.added.ensures)

pub returns-in_ok-right-in-JoinRight : goal.returns-in_ok-right-in-JoinRight
returns-in_ok-right-in-JoinRight g t c =
    rw c.in-JoinRight.is (rw (rw c.deref-in-JoinRight.ensures at c.in_ok-right-in-JoinRight.ensures, c.table_width-in-JoinRight.ensures) at c.added-in-JoinRight.ensures)
