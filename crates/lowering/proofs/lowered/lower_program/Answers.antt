use Rattle.std.proofs.Common.{◌≡◌, length, map, sym, ap, subst, ◌∙◌}
use Rattle.std.proofs.lemmas.List.{length-map}
use Rattle.expr_tree.specs.Plain.{plain_output, plain_program}
use Rattle.expr_tree.specs.Views.{output_tree, program_tree}
use Rattle.semantics.specs.Dataflow.{IsDataflow}
use Rattle.semantics.specs.Graph.{Graph, output_numbers}
use Rattle.lowering.specs.Computing.{Computes}
use Rattle.graph.specs.Views.{graph_of}
use Rattle.lowering.proofs.Nesting.{typed_nested}
use Rattle.lowering.proofs.lowered.lower_program.Goals as goal

pub lower_vertices-requires : goal.lower_vertices-requires
lower_vertices-requires g c = typed_nested (plain_program (program_tree c.args.program.now)) c.requires.0 c.requires.1

pub outputs_of-requires : goal.outputs_of-requires
outputs_of-requires g c =
    let p = plain_program (program_tree c.args.program.now) in
    let vs = c.in_ok-vertices.vertices.items in
    let os = c.args.program.now.outputs.items in
    let n : length (output_numbers (graph_of vs)) ≡ length os =
    ap (λ h. length (output_numbers h)) c.in_ok-vertices.ensures.ok ∙ c.law_program.ensures.outputs p ∙ length-map (map output_tree os) plain_output ∙ length-map os output_tree in
    record {
      few = rw c.deref-2.ensures.value c.in_ok-vertices.ensures.few;
      same = rw (c.deref-2.ensures.value, c.deref.ensures.value) n;
    }

pub new-requires : goal.new-requires
new-requires g c =
    let p = plain_program (program_tree c.args.program.now) in
    record {
      program = ∣ (p, c.requires.0, c.requires.1, c.in_ok-vertices.ensures.ok, c.in_ok-inputs.ensures, c.in_ok-arities.ensures) ∣₁;
      dataflow = subst (λ (h : Graph). IsDataflow h) (sym c.in_ok-vertices.ensures.ok) (c.law_program.ensures.dataflow p c.requires.0 c.requires.1);
      outputs = rw c.deref-2.ensures.value at (c.in_ok-outputs.ensures.numbers);
      few = c.in_ok-vertices.ensures.few;
    }

pub returns-clause-flow : goal.returns-clause-flow
returns-clause-flow g c =
    let p = plain_program (program_tree c.args.program.now) in
    let n = c.requires.0 in
    let w = c.requires.1 in
    subst (λ (h : Graph). Computes h p) (sym (c.in_ok-made.ensures.graph ∙ c.in_ok-vertices.ensures.ok)) (record {
      one_flow = λ inputs. c.law_program.ensures.one_flow p n inputs w;
      outputs = c.law_program.ensures.outputs p;
      meaning = λ inputs f output epoch h l. c.law_program.ensures.meaning p n inputs f output epoch w h l;
      quiet = λ inputs f v i u h j k l. c.law_program.ensures.quiet p n inputs f v i u w h j k l;
    })
