-- A file that is read to its end, and its faults.
use Rattle.std.proofs.Common.{◌≡◌, ◌++◌, ◌∙◌, ℕ, ℤ, List, [], Bool, true, false, Option, Some, None, refl, sym, ap, subst, inl, inr}
use Rattle.std.proofs.lemmas.List.{append-nil}
use Rattle.std.specs.Io.KnownBytes.{Consumes, IsAtEnd}
use Rattle.csv.specs.Reading.{strip_bom}
use Rattle.csv_blocks.specs.Blocks.{IsFaultOf, IsFilled, block_of}
use Rattle.csv_blocks.specs.Texts.{AreWhole}
use Rattle.csv_blocks.specs.declared.blocks.Blocks.{Blocks}
use Rattle.csv_blocks.specs.declared.fault.BlockFault.{BlockFault}
use Rattle.csv_blocks.proofs.Composed.{run-on}
use Rattle.schema.specs.declared.tables.Table.{Table}
use Rattle.tables.specs.Blocks.{HaveGone}
use Rattle.tables.specs.Inputs.{IsEncodedFile, IsKnownAs}
use Rattle.tables.specs.TextFiles.{IsFaultIn, MayFollow}
use Rattle.tables.specs.declared.file.Progress.TheVariants.{Records}
use Rattle.tables.specs.declared.records.Target.{Target}

-- a fault of what was read is one of the file
pub fault-known : (start left : Option (List ℕ)) (text : List ℕ) (fault : BlockFault) → Consumes start left text → IsFaultIn left text fault → (file : List ℕ) × IsKnownAs start file × IsFaultOf (strip_bom file) fault
fault-known None left text fault c (inl stuck) = (text ++ [], tt, stuck [])
fault-known None left text fault c (inr (ends, is)) = (text, tt, is)
fault-known (Some xs) None text fault c f = absurd c
fault-known (Some xs) (Some ys) text fault c (inl stuck) = (xs, refl, rw c (stuck ys))
fault-known (Some xs) (Some ys) text fault c (inr (ends, is)) =
    (xs, refl, subst (λ (t : List ℕ). IsFaultOf (strip_bom t) fault) (sym (c ∙ ap (λ (t : List ℕ). text ++ t) ends ∙ append-nil text)) is)

-- what was read to its end is the file
pub all-known : (start left : Option (List ℕ)) (text : List ℕ) → Consumes start left text → IsAtEnd left → IsKnownAs start text
all-known None left text c ends = tt
all-known (Some xs) None text c ends = absurd c
all-known (Some xs) (Some ys) text c ends = sym (c ∙ ap (λ (t : List ℕ). text ++ t) ends ∙ append-nil text)

pub some-known : (start : Option (List ℕ)) → (file : List ℕ) × IsKnownAs start file
some-known None = ([], tt)
some-known (Some xs) = (xs, refl)

pub none-read : (start : Option (List ℕ)) → Consumes start start []
none-read None = tt
none-read (Some xs) = refl

-- what may come behind a block that was read
pub follows : (last : Bool) (done : List ℕ) (b : Blocks) (text tail : List ℕ) → IsFilled last done b text → (last ≡ true → tail ≡ []) → MayFollow last (block_of b) tail
follows false done b text tail h none = (h.is_at.holds.whole, h.some)
follows true done b text tail h none =
    let (s, reached, ends) = h.strict in
    ((s, sym (run-on done (block_of b) h.before) ∙ rw h.all at reached, ends), none refl)

pub whole-before : (last : Bool) (done : List ℕ) (b : Blocks) (text : List ℕ) → IsFilled last done b text → AreWhole done
whole-before false done b text h = h.is_at.holds.before
whole-before true done b text h = h.before

pub whole-next : (done : List ℕ) (b : Blocks) (text : List ℕ) → IsFilled false done b text → AreWhole (done ++ block_of b)
whole-next done b text h = run-on done (block_of b) h.is_at.holds.before ∙ h.is_at.holds.whole

-- all records of a file have gone into its lines
pub file-gone : (table : Table) (target : Target) (shared text done lines : List ℕ) (texts : List (List ℕ)) (b : Blocks) (latest : Option ℤ) → target.epochs ≡ table.epochs → target.name.now ≡ table.name.items → target.shared.now ≡ shared
    → IsFilled true done b text → HaveGone table target texts (Records latest) (done ++ block_of b) lines → IsEncodedFile table shared text texts lines
file-gone table target shared text done lines texts b latest epochs named joined h (rows, all, gone) = record {
  strict = h.strict;
  target = target;
  epochs = epochs;
  named = named;
  joined = joined;
  encoded = record {
    rows = rows;
    numbers = gone.numbers;
    read = rw h.all all;
    spelled = gone.spelled;
    ordered = gone.ordered;
    written = gone.written;
  };
}
