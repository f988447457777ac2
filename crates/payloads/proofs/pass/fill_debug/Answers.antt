-- `fill_debug` is the last step of a pass: two tables. Assumes nothing.
use native.Mathlib.Omega.{arith}
use Rattle.std.proofs.lemmas.Result.{err_from_is_err_and}
use Rattle.format.proofs.LawsSoundItems.{known_bytes}
use Rattle.payloads.proofs.LawsRaised.{staged-err, staged-ok}
use Rattle.payloads.proofs.LawsHeld.{source-short}
use Rattle.payloads.proofs.LawsDebugging.{debug-stopped, debug-refused, debug-goes, debug-bound, attributes-few}
use Rattle.payloads.proofs.pass.fill_debug.Goals as goal

pub returns-in_err-debug : goal.returns-in_err-debug
returns-in_err-debug c =
    let p = err_from_is_err_and c.from_residual.result c.from_residual.ensures.1 in
    let (x, e, q) = staged-err _ _ _ c.in_err-debug.ensures in
    let stopped = debug-stopped _ _ x (rw e at c.read_debug.ensures) in
    rw (p.1, p.2, q) (λ n p. debug-refused _ _ _ _ n x stopped)

pub overflow_mul-debug : goal.overflow_mul-debug
overflow_mul-debug c =
    let s = c.args.source in
    let bound = debug-bound s.file.now _ (known_bytes s.file.now s.bytes) (source-short s.file.now s.container.now s.read) in
    let read = rw (staged-ok _ _ _ c.in_ok-debug.ensures) at c.read_debug.ensures in
    omega (arith, attributes-few _ _ _ read bound)

pub overflow_add-at : goal.overflow_add-at
overflow_add-at c =
    let s = c.args.source in
    let bound = debug-bound s.file.now _ (known_bytes s.file.now s.bytes) (source-short s.file.now s.container.now s.read) in
    let read = rw (staged-ok _ _ _ c.in_ok-debug.ensures) at c.read_debug.ensures in
    omega (arith, attributes-few _ _ _ read bound)

pub returns : goal.returns
returns c =
    let s = c.args.source in
    let bound = debug-bound s.file.now _ (known_bytes s.file.now s.bytes) (source-short s.file.now s.container.now s.read) in
    let read = rw (staged-ok _ _ _ c.in_ok-debug.ensures) at c.read_debug.ensures in
    λ n p. debug-goes _ _ n _ read bound c.put_table.ensures c.put_table-2.ensures
