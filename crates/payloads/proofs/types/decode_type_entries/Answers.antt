-- `decode_type_entries` reads entry after entry: whatever reading the rest leaves, reading them all leaves it. Assumes nothing.
use mathlib.Core.Path.{◌≡◌, refl, sym}
use Prim.Native.Nat.{suc, ◌+◌, ◌-◌}
use native.Mathlib.Nat.{sub-zero}
use native.Mathlib.Omega.{arith}
use Rattle.std.proofs.lemmas.Result.{err_from_is_err_and}
use Rattle.format.specs.DecodeTypes.{type_entry_at}
use Rattle.format.specs.Sheet.{type_words}
use Rattle.entries.proofs.LawsStarts.{end-got}
use Rattle.entries.proofs.LawsEntries.{rest_of, rest-length, before-next, part_length}
use Rattle.payloads.proofs.LawsEntryRows.{words-done, words-bad, words-stop, words_more, words-all, words-as}
use Rattle.payloads.proofs.LawsRaised.{raised-err, raised-ok, raised-fits}
use Rattle.payloads.proofs.types.decode_type_entries.Goals as goal

pub loop-init : goal.loop-init
loop-init c =
    let (b, a) = words-all type_words 0 (type_entry_at c.args.«class») _ _ c.requires.lies _ _ c.first_entry-from.ensures in
    (λ s r x. words-as _ _ _ _ _ _ a (rw sub-zero at x), rw sub-zero b, omega arith)

pub returns-in_err-behind : goal.returns-in_err-behind
returns-in_err-behind c =
    let l = c.loop in
    let m : c.args.starts.count - l.counter ≡ suc (c.args.starts.count - (l.counter + 1)) = omega (arith, c.loop-test.true) in
    let p = err_from_is_err_and c.from_residual.result c.from_residual.ensures.1 in
    rw (p.1, p.2)
    (l.invariant.0 _ _ (words-bad type_words _ _ _ _ _ _ _ (omega arith) _ _ _ _ m l.invariant.1 _ (sym c.in_err-behind.ensures) _ _ _))

pub slice_bounds-entry-count : goal.slice_bounds-entry-count
slice_bounds-entry-count c = omega (arith, (end-got _ _ _ _ _ _ _ _ (sym c.in_ok-behind.ensures)).1)

pub slice_bounds-entry-start : goal.slice_bounds-entry-start
slice_bounds-entry-start c = omega (arith, (end-got _ _ _ _ _ _ _ _ (sym c.in_ok-behind.ensures)).1)

pub slice_bounds-entry-end : goal.slice_bounds-entry-end
slice_bounds-entry-end c = (end-got _ _ _ _ _ _ _ _ (sym c.in_ok-behind.ensures)).2

pub decode_type_entry-requires : goal.decode_type_entry-requires
decode_type_entry-requires c =
    let l = c.loop.invariant in
    let (f, g, h) = end-got _ _ _ _ _ _ _ _ (sym c.in_ok-behind.ensures) in
    let d = rest-length c.args.payload.now c.args.starts in
    let n = part_length c.loop.from.start.0 c.in_ok-behind.behind.start.0
    (rest_of c.args.payload.now c.args.starts) (omega arith) h in
    omega (arith, l.2, g, h, d, n, c.requires.payload_bound)

pub overflow_add-base : goal.overflow_add-base
overflow_add-base c =
    let (f, g, h) = end-got _ _ _ _ _ _ _ _ (sym c.in_ok-behind.ensures) in
    let d = rest-length c.args.payload.now c.args.starts in
    omega (arith, g, h, d, c.requires.lies.inside)

pub raised-requires : goal.raised-requires
raised-requires c =
    let (f, g, h) = end-got _ _ _ _ _ _ _ _ (sym c.in_ok-behind.ensures) in
    let d = rest-length c.args.payload.now c.args.starts in
    let n = part_length c.loop.from.start.0 c.in_ok-behind.behind.start.0
    (rest_of c.args.payload.now c.args.starts) (omega arith) h in
    raised-fits _ _ (λ x e. let k = rw e at c.decode_type_entry.ensures.short in omega (arith, k, g, h, d, n, c.requires.lies.inside))

pub returns-in_err-row : goal.returns-in_err-row
returns-in_err-row c =
    let l = c.loop in
    let m : c.args.starts.count - l.counter ≡ suc (c.args.starts.count - (l.counter + 1)) = omega (arith, c.loop-test.true) in
    let p = err_from_is_err_and c.from_residual-in_err-row.result c.from_residual-in_err-row.ensures.1 in
    let (x, e, q) = raised-err _ _ _ c.in_err-row.ensures in
    rw (p.1, p.2, q)
    (l.invariant.0 _ _ (words-stop type_words _ _ _ _ _ _ _ (omega arith) _ _ _ _ m l.invariant.1 _ _ (sym c.in_ok-behind.ensures) _ _ _ x
    (rw e at c.decode_type_entry.ensures.row) _))

pub loop-preserved : goal.loop-preserved
loop-preserved c =
    let l = c.loop in
    let m : c.args.starts.count - l.counter ≡ suc (c.args.starts.count - (l.counter + 1)) = omega (arith, c.loop-test.true) in
    let e = sym c.in_ok-behind.ensures in
    let (f, g, h) = end-got _ _ _ _ _ _ _ _ e in
    let n = part_length c.loop.from.start.0 c.in_ok-behind.behind.start.0
    (rest_of c.args.payload.now c.args.starts) (omega arith) h in
    let o = raised-ok _ _ _ c.in_ok-row.ensures in
    let row = rw o at c.decode_type_entry.ensures.row in
    let short = rw o at c.decode_type_entry.ensures.short in (
      λ s r x. l.invariant.0 s r (words_more type_words _ _ _ _ _ _ _ (omega arith) _ _ _ _ m l.invariant.1 _ _ e _ _ _ _ row s r x),
      (before-next _ _ _ (omega arith) _ _ _ _ _ _ m l.invariant.1 f).0,
      omega (arith, l.invariant.2, g, n, short.1),
    )

pub returns : goal.returns
returns c =
    c.loop.invariant.0 _ _ (words-done type_words _ _ _ _ _ _ _ _ _ _ _ _ _ _ (omega (arith, c.loop-test.false)) refl)
