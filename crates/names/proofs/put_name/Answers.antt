-- `put_name` copies a short name, and leaves a long one to `put_long_name`. Assumes nothing.
use mathlib.Core.Path.{sym}
use native.Mathlib.Omega.{arith}
use lib.Seq.{length-take-le}
use Rattle.names.proofs.LawsAnswer.{size-within, short-full, short-put}
use borrow.Author.Rules.{rules}
use Rattle.names.proofs.put_name.Goals as goal

pub returns-then-out-size : goal.returns-then-out-size
returns-then-out-size c =
    let a = short-full _ _ c.requires _ c.describe_type.ensures _ c.in-At.is _ c.if-out-size.true in
    record { result_value = a.0; out_after = a.1 }

pub slice_bounds-short-end : goal.slice_bounds-short-end
slice_bounds-short-end c =
    let w = size-within _ _ c.requires _ c.describe_type.ensures _ c.in-At.is in
    search rules

pub slice_bounds-put_run-end : goal.slice_bounds-put_run-end
slice_bounds-put_run-end c =
    let d = c.describe_type in
    let w = size-within _ _ c.requires _ d.ensures _ c.in-At.is in
    let k = d.auto.out in
    sym (length-take-le _ d.new.out (omega (arith, w, k)))

pub returns : goal.returns
returns c =
    let a = short-put _ _ c.requires _ c.describe_type.ensures _ c.in-At.is _ _ c.if-out-size.false c.put_run.ensures in
    record { result_value = a.0; out_after = a.1 }
