use Rattle.std.proofs.Common.{◌≡◌, ◌≤◌, ◌++◌, [], ℕ, List, get_or, length, take}
use Rattle.csv_cells.specs.Texts.{Grows, texts_of}
use Rattle.tables.specs.Inputs.{AreJoined, Completes}
use Rattle.tables.proofs.encoding.encode_some.Given as goal

abbrev pub invariant-loop-place : goal.invariant-loop-place
invariant-loop-place g l = record {
  joined : (before : List (List ℕ)) → length before ≡ length l.tables → (texts : List (List ℕ)) × (lines : List ℕ) × (length texts ≡ length l.tables)
      × ((i : ℕ) → l.place ≤ i → get_or texts i [] ≡ get_or before i [])
      × Completes l.own (g.F.TableFiles.content l.files) before texts 0 (take l.place l.tables)
      × AreJoined l.own l.shared texts (texts_of l.dictionary) 0 (take l.place l.tables) lines
      × ((first : g.row.O.Denot) (taken : List ℕ) → g.O.LineSink.took first l.fn.out taken → g.O.LineSink.took first l.out (taken ++ lines));
  stays : (first : g.row.O.Denot) → g.O.LineSink.stays first l.fn.out → g.O.LineSink.stays first l.out;
  grown : Grows (texts_of l.fn.dictionary) (texts_of l.dictionary);
}
