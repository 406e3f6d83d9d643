-- The command that was found, with its matches, is the one that the words name.
use Rattle.std.proofs.Common.{◌≡◌, ◌⊎◌, List, Option, Some, None, option_map, refl, sym, subst, ◌∙◌}
use Rattle.std.specs.Prelude.{IfSome, codes}
use Rattle.std.specs.Box.{box_value}
use Rattle.clap.specs.Words.{Row, Text, found_of, rows_of, subcommand_rows}
use Rattle.clap.specs.Simple.{HasMatchesOf}
use Rattle.clap.specs.Matches.{subcommand_name_of}
use Rattle.clap.specs.declared.parser.matches.ArgMatches.{ArgMatches}
use Rattle.clap.specs.declared.parser.matches.ArgMatches.TheViews.{out-ArgMatches, out-SubCommand}
use Rattle.schema_words.specs.Line.{AsksRun, HoldsRun, HoldsRunOf, run_line}
use Rattle.schema_words.specs.declared.run_line.TableRun.{TableRun}

pub if-some : {X : Type 0} {P Q : X → Type 0} → (o : Option X) → ((x : X) → P x → Q x) → IfSome o P → IfSome o Q
if-some None f p = tt
if-some (Some x) f p = f x p

-- a pair of which both parts are known
both : {X : Type 0} (found : Option X) (f : X → Text) (g : X → List Row) (name : Text) (rows : List Row) → Some name ≡ option_map f found
    → Some rows ≡ option_map (λ (p : Text × List Row). p.1) (option_map {U = Text × List Row} (λ x. (f x, g x)) found)
    → option_map {U = Text × List Row} (λ x. (f x, g x)) found ≡ Some (name, rows)
both None f g name rows n r = absurd cc
both (Some x) f g name rows n r =
    let first : name ≡ f x = cc in
    let second : rows ≡ g x = cc in
    rw (first, second) refl

pub holds : (words : List Text) (m : ArgMatches) (name : Text) (rows : List Row) → HasMatchesOf run_line words m → Some name ≡ subcommand_name_of m
    → Some rows ≡ option_map (λ p. p.1) (subcommand_rows (out-ArgMatches m).subcommand)
    → (name ≡ codes "run") ⊎ (name ≡ codes "follow") → (asked : TableRun) → HoldsRun rows asked → AsksRun words asked
unfolding AsksRun
holds words m name rows has n r is asked h =
    let found = both (out-ArgMatches m).subcommand (λ b. (out-SubCommand (box_value b)).name.now) (λ b. rows_of (found_of (out-SubCommand (box_value b)).matches)) name rows n r in
    subst (λ f. HoldsRunOf f asked) (sym found ∙ (has refl).1) (is, h)
