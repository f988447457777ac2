-- `payload` takes the bytes at a place that lies in the file. Assumes nothing.
use mathlib.Core.Path.{sym, subst}
use native.Mathlib.Omega.{arith}
use Rattle.payloads.specs.Pass.{Inside}
use Rattle.payloads.proofs.LawsHeld.{source-short, source-inside, part-near}
use Rattle.payloads.proofs.source.Source.payload.Goals as goal

pub overflow_add-end : goal.overflow_add-end
overflow_add-end c =
    let s = c.args.self in
    let inside = subst (Inside s.file.now) (sym c.get-place.ensures) (source-inside s.file.now s.container.now s.read c.id.result) in
    omega (arith, inside, source-short s.file.now s.container.now s.read)

pub slice_bounds-bytes-end : goal.slice_bounds-bytes-end
slice_bounds-bytes-end c =
    let s = c.args.self in
    subst (Inside s.file.now) (sym c.get-place.ensures) (source-inside s.file.now s.container.now s.read c.id.result)

pub invariant_of-result : goal.invariant_of-result
invariant_of-result c =
    let s = c.args.self in
    let inside = subst (Inside s.file.now) (sym c.get-place.ensures) (source-inside s.file.now s.container.now s.read c.id.result) in
    record { near = part-near s.file.now _ _ inside (source-short s.file.now s.container.now s.read) }
