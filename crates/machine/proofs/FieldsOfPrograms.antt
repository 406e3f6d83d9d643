-- What a program's engine emits at an output has the output's arity.
use Rattle.std.proofs.Common.{◌<◌, ◌∙◌, ℕ, List, length, slice_index_or}
use Rattle.semantics.specs.Query.{Program}
use Rattle.semantics.specs.PortArity.{HaveFields, program_arities}
use Rattle.semantics.specs.Lower.{lowered}
use Rattle.semantics.proofs.TypedPorts.{typed_ports, typed_output}
use Rattle.machine.specs.World.{World}
use Rattle.machine.specs.Step.{Step}
use Rattle.machine.specs.Headline.{IsRunOf, output_of}
use Rattle.machine.specs.InTransit.{FedFits}
use Rattle.machine.proofs.FieldsOfMessages.{emitted_fields}
use Rattle.machine.proofs.Headline.{output_at, run_on}

pub program_fields : (p : Program) (workers : ℕ) (steps : List Step) (w : World) (is : IsRunOf p workers steps w) → FedFits (lowered p) (λ v. slice_index_or (program_arities p) v 0) w
    → (output epoch : ℕ) → output < length p.outputs → HaveFields (slice_index_or is.arities output 0) (w.emitted (output_of p output) epoch)
program_fields p workers steps w is given output epoch l r some =
    let at = output_at p output l in
    emitted_fields (lowered p) workers steps w (run_on p workers steps w is) (λ v. slice_index_or (program_arities p) v 0) (typed_ports p is.arities is.typed) given (output_of p output) epoch at.0 at.1 r some
    ∙ typed_output p is.arities output is.typed l
