-- `fill_attributes` reads entry after entry: whatever reading the rest leaves, reading them all leaves it. Assumes nothing.
use mathlib.Core.Path.{◌≡◌, refl, sym}
use Prim.Native.Nat.{ℕ, suc, ◌+◌, ◌-◌, ◌≤◌, ◌<◌}
use native.Mathlib.Omega.{arith}
use lib.ListN.{get_or}
use Rattle.std.proofs.lemmas.Result.{err_from_is_err_and}
use Rattle.format.specs.DecodeDebug.{attribute_at}
use Rattle.format.specs.Sheet.{attribute_words}
use Rattle.entries.proofs.LawsStarts.{end-got}
use Rattle.entries.proofs.LawsEntries.{rest-length, before-next}
use Rattle.payloads.proofs.LawsEntryRows.{words-done, words-bad, words-stop, words_more, words-all, words-as}
use Rattle.payloads.proofs.LawsRaised.{raised-err, raised-ok, raised-fits}
use Rattle.payloads.proofs.LawsDebug.{attribute-inside, part-bytes, seven}
use Rattle.payloads.proofs.debug.fill_attributes.Goals as goal

pub loop-init : goal.loop-init
loop-init c =
    let (b, a) = words-all attribute_words 1 attribute_at _ _ c.requires.attributes_lie _ _ c.first_entry-from.ensures in
    let z : c.args.attributes.count - 0 ≡ c.args.attributes.count = omega arith in
    rw z (record { onward = λ t r x. x; before = b; words = omega arith })

pub returns-in_err-behind : goal.returns-in_err-behind
returns-in_err-behind c =
    let l = c.loop.invariant in
    let m : c.args.attributes.count - c.loop.counter ≡ suc (c.args.attributes.count - (c.loop.counter + 1)) = omega arith in
    let p = err_from_is_err_and c.from_residual.result c.from_residual.ensures.1 in
    let (b, a) = words-all attribute_words 1 attribute_at _ _ c.requires.attributes_lie _ _ c.first_entry-from.ensures in
    rw (p.1, p.2)
    (words-as _ _ _ _ _ _ a (l.onward _ _ (words-bad attribute_words _ _ _ _ _ _ _ (omega arith) _ _ _ _ m l.before _ (sym c.in_err-behind.ensures) _ _ _)))

pub invariant_of-entry : goal.invariant_of-entry
invariant_of-entry c =
    let (f, g, h) = end-got _ _ _ _ _ _ _ _ (sym c.in_ok-behind.ensures) in
    let whole : (i : ℕ) → get_or c.args.payload.now i 0 < 256 = λ i. omega (arith, c.type_inv.payload i) in
    record { some = omega (arith, g); inside = h; bytes = part-bytes _ _ _ whole }

pub raised-requires : goal.raised-requires
raised-requires c =
    let (f, g, h) = end-got _ _ _ _ _ _ _ _ (sym c.in_ok-behind.ensures) in
    let d = rest-length c.args.payload.now c.args.attributes in
    let inside = attribute-inside _ _ _ (omega (arith, g)) h _ _ _ _ c.any_attribute.ensures in
    raised-fits _ _ (λ x e. omega (arith, inside x e, d))

pub returns-in_err-row : goal.returns-in_err-row
returns-in_err-row c =
    let l = c.loop.invariant in
    let m : c.args.attributes.count - c.loop.counter ≡ suc (c.args.attributes.count - (c.loop.counter + 1)) = omega arith in
    let p = err_from_is_err_and c.from_residual-in_err-row.result c.from_residual-in_err-row.ensures.1 in
    let (b, a) = words-all attribute_words 1 attribute_at _ _ c.requires.attributes_lie _ _ c.first_entry-from.ensures in
    let (x, e, q) = raised-err _ _ _ c.in_err-row.ensures in
    rw (p.1, p.2, q)
    (words-as _ _ _ _ _ _ a
    (l.onward _ _ (words-stop attribute_words _ _ _ _ _ _ _ (omega arith) _ _ _ _ m l.before _ _ (sym c.in_ok-behind.ensures) _ _ _ x
    (rw e at c.any_attribute.ensures) _)))

pub loop-preserved : goal.loop-preserved
loop-preserved c =
    let l = c.loop.invariant in
    let m : c.args.attributes.count - c.loop.counter ≡ suc (c.args.attributes.count - (c.loop.counter + 1)) = omega arith in
    let e = sym c.in_ok-behind.ensures in
    let (f, g, h) = end-got _ _ _ _ _ _ _ _ e in
    let o = rw (raised-ok _ _ _ c.in_ok-row.ensures) at c.any_attribute.ensures in
    record {
      onward = λ t r x. l.onward t r (words_more attribute_words _ _ _ _ _ _ _ (omega arith) _ _ _ _ m l.before _ _ e _ _ _ _ o t r x);
      before = (before-next _ _ _ (omega arith) _ _ _ _ _ _ m l.before f).0;
      words = omega (arith, g, seven _ _ _ _ _ o);
    }

pub returns : goal.returns
returns c =
    let z : c.args.attributes.count - c.loop.counter ≤ 0 = omega arith in
    let (b, a) = words-all attribute_words 1 attribute_at _ _ c.requires.attributes_lie _ _ c.first_entry-from.ensures in
    words-as _ _ _ _ _ _ a (c.loop.invariant.onward _ _ (words-done attribute_words _ _ _ _ _ _ _ _ _ _ _ _ _ _ z refl))
