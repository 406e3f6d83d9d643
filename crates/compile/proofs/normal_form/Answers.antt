use Rattle.compile.proofs.normal_form.Goals as goal

pub returns : goal.returns
returns g c = record { reached = c.in_ok-normal.ensures.reached; normal = c.in_ok-normal.ensures.normal }
