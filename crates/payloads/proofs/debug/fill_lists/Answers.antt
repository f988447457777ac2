-- `fill_lists` puts the lists one by one: whatever the rest leaves, all of them leave it. Assumes nothing.
use mathlib.Core.Path.{◌≡◌, refl, sym}
use Prim.Native.Nat.{suc, ◌+◌, ◌-◌, ◌≤◌}
use native.Mathlib.Omega.{arith}
use lib.ListN.{length, drop}
use Rattle.std.proofs.lemmas.Result.{err_from_is_err_and}
use Rattle.exact.specs.Fixed.{nums}
use Rattle.exact.proofs.LawsFixed.{length-nums}
use Rattle.entries.proofs.LawsStarts.{end-got}
use Rattle.entries.proofs.LawsEntries.{starts-few, before-next}
use Rattle.payloads.proofs.LawsEntryRows.{words-as}
use Rattle.payloads.proofs.LawsDebug.{ids-inside, ids-are, lists-done, lists-bad, lists-more, lists-all}
use Rattle.payloads.proofs.debug.fill_lists.Goals as goal

pub loop-init : goal.loop-init
loop-init c =
    let (b, a) = lists-all c.args.at.pos (nums c.args.ids.count 8 (drop c.args.ids.first c.args.payload.now)) _ _ _ c.requires.lists_lie refl _ _ _ c.first_list-from.ensures in
    let z : c.args.lists.count - 0 ≡ c.args.lists.count = omega arith in
    rw z (record { onward = λ t r x. x; before = b; words = omega arith })

pub returns-in_err-behind : goal.returns-in_err-behind
returns-in_err-behind c =
    let l = c.loop.invariant in
    let m : c.args.lists.count - c.loop.counter ≡ suc (c.args.lists.count - (c.loop.counter + 1)) = omega arith in
    let n = sym (length-nums c.args.ids.count 8 (drop c.args.ids.first c.args.payload.now)) in
    let (b, a) = lists-all c.args.at.pos (nums c.args.ids.count 8 (drop c.args.ids.first c.args.payload.now)) _ _ _ c.requires.lists_lie refl _ _ _ c.first_list-from.ensures in
    let p = err_from_is_err_and c.from_residual.result c.from_residual.ensures.1 in
    rw (p.1, p.2) (words-as _ _ _ _ _ _ a (l.onward _ _ (lists-bad _ _ _ _ n _ _ _ _ m l.before _ _ _ (sym c.in_err-behind.ensures) _)))

pub overflow_sub-size : goal.overflow_sub-size
overflow_sub-size c = omega (arith, (end-got _ _ _ _ _ _ _ _ (sym c.in_ok-behind.ensures)).1)

pub overflow_add-word : goal.overflow_add-word
overflow_add-word c =
    let (f, g, h) = end-got _ _ _ _ _ _ _ _ (sym c.in_ok-behind.ensures) in
    omega (arith, g, h, starts-few 4 _ _ (omega arith) c.requires.lists_lie, starts-few 8 _ _ (omega arith) c.requires.ids_lie)

pub put_ids-requires : goal.put_ids-requires
put_ids-requires c =
    let (f, g, h) = end-got _ _ _ _ _ _ _ _ (sym c.in_ok-behind.ensures) in
    let n = length-nums c.args.ids.count 8 (drop c.args.ids.first c.args.payload.now) in
    let k = c.in_ok-behind.behind.start.0 in
    let i : k ≤ length (nums c.args.ids.count 8 (drop c.args.ids.first c.args.payload.now)) = omega (arith, h, n) in
    record {
      start_le_end = (omega (arith, g), ids-inside _ _ c.requires.ids_lie _ i);
      end_bound = omega (arith, g, h, starts-few 4 _ _ (omega arith) c.requires.lists_lie, starts-few 8 _ _ (omega arith) c.requires.ids_lie);
    }

pub overflow_add-word-in-loop : goal.overflow_add-word-in-loop
overflow_add-word-in-loop c =
    let (f, g, h) = end-got _ _ _ _ _ _ _ _ (sym c.in_ok-behind.ensures) in
    omega (arith, g, h, starts-few 4 _ _ (omega arith) c.requires.lists_lie, starts-few 8 _ _ (omega arith) c.requires.ids_lie)

pub overflow_add-word-in-loop-2 : goal.overflow_add-word-in-loop-2
overflow_add-word-in-loop-2 c =
    let (f, g, h) = end-got _ _ _ _ _ _ _ _ (sym c.in_ok-behind.ensures) in
    omega (arith, g, h, starts-few 4 _ _ (omega arith) c.requires.lists_lie, starts-few 8 _ _ (omega arith) c.requires.ids_lie)

pub loop-preserved : goal.loop-preserved
loop-preserved c =
    let l = c.loop in
    let m : c.args.lists.count - l.counter ≡ suc (c.args.lists.count - (l.counter + 1)) = omega arith in
    let e = sym c.in_ok-behind.ensures in
    let (f, g, h) = end-got _ _ _ _ _ _ _ _ e in
    let n = length-nums c.args.ids.count 8 (drop c.args.ids.first c.args.payload.now) in
    let k = c.in_ok-behind.behind.start.0 in
    let i : k ≤ length (nums c.args.ids.count 8 (drop c.args.ids.first c.args.payload.now)) = omega (arith, h, n) in
    let d = ids-are _ _ c.requires.ids_lie _ i l.from.start.0 _ _ _ c.put_ids.ensures in
    record {
      onward = λ u r x. l.invariant.onward u r (lists-more _ _ _ _ (sym n) _ _ _ _ m l.invariant.before _ _ _ _ e _ _ _ u r c.put_word.ensures d refl x);
      before = (before-next _ _ _ (omega arith) _ _ _ _ _ _ m l.invariant.before f).0;
      words = omega (arith, l.invariant.words, g);
    }

pub returns : goal.returns
returns c =
    let z : c.args.lists.count - c.loop.counter ≤ 0 = omega arith in
    let (b, a) = lists-all c.args.at.pos (nums c.args.ids.count 8 (drop c.args.ids.first c.args.payload.now)) _ _ _ c.requires.lists_lie refl _ _ _ c.first_list-from.ensures in
    words-as _ _ _ _ _ _ a (c.loop.invariant.onward _ _ (lists-done _ _ _ _ _ _ _ _ _ _ z refl))
