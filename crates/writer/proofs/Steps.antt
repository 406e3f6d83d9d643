-- What is written in several steps, the last of which may be refused too.
use Rattle.std.proofs.Common.{◌≡◌, List, ℕ, ◌++◌, Result, Ok, Err}
use Rattle.std.specs.Prelude.{OnOk, OnErr}
use Rattle.writer.specs.Pieces.{Extends}
use Rattle.writer.proofs.Texts.{extends_from}

pub on_ok : {T E : Type 0} (r : Result T E) (P Q : Type 0) → OnOk r P → (P → Q) → OnOk r Q
on_ok (Ok x) P Q p f = f p
on_ok (Err e) P Q p f = tt

-- a step before the last
pub refused_last : {T E : Type 0} (r : Result T E) (o m w z : List ℕ) → m ≡ o ++ z → OnErr r (Extends m w) → OnErr r (Extends o w)
refused_last (Ok x) o m w z h e = tt
refused_last (Err x) o m w z h e = extends_from o m w z h e
