-- Header and sections are read exactly, and the last section with an id is the one that counts. Assumes nothing.
use mathlib.Core.Path.{◌≡◌, refl, sym, ap, ap₂, subst}
use Prim.Native.Nat.{ℕ, ◌+◌, ◌%◌, ◌≤◌, ◌<◌}
use native.Mathlib.Omega.{arith}
use native.Mathlib.Decide.{dec_lt, ℕ_discrete}
use mathlib.Core.Bool.{Bool, true, false, ◌&&◌, Bool-discrete, false≢true}
use mathlib.Core.Option.{Option, none, some}
use mathlib.Core.List.{List, [], ◌∷◌, ◌++◌}
use lib.Dec.{T, eqb, eqb→eq}
use lib.ListN.{length}
use Rattle.exact.specs.Exact.{Lang, Exact}
use Rattle.exact.specs.Basic.{One, one, Is, is}
use Rattle.exact.specs.Sequence.{Then, then, Of, of}
use Rattle.exact.specs.Choice.{If, so, else, Such, such_of}
use Rattle.exact.specs.Fixed.{Raw, raw_of, Fixed}
use Rattle.exact.specs.Padding.{Pad, literal_of}
use Rattle.exact.specs.Upto.{At, at}
use Rattle.exact.proofs.LawsExact.{same-exact}
use Rattle.exact.proofs.LawsBasic.{byte-exact, pure-exact}
use Rattle.exact.proofs.LawsSequence.{bind-exact, map-exact}
use Rattle.exact.proofs.LawsChoice.{choose-exact, such-exact}
use Rattle.exact.proofs.LawsFixed.{raw-exact, fixed-exact}
use Rattle.exact.proofs.LawsPadding.{blamed-exact}
use Rattle.exact.proofs.LawsUpto.{place-exact}
use Rattle.exact.proofs.LawsUntil.{until-exact}
use Rattle.enums.specs.Container.{P, magic, end_of_bytecode}
use Rattle.reading.proofs.LawsNumbers.{varint-exact, padding-exact}
use Rattle.format.specs.Tables.{Version}
use Rattle.format.specs.Items.{Number}
use Rattle.format.specs.Header.{Header}
use Rattle.format.specs.Sections.{Section, Alignment, unaligned, aligned, SectionAt, Item, marker, section, Sections}
use Rattle.format.specs.DecodeContainer.{same, magic_at, header_at, alignment_at, section_at, item_at, sections_at}
use Rattle.format.proofs.LawsItems.{fixed-anywhere}

both_true : (a b : Bool) → a && b ≡ true → T a × (b ≡ true)
both_true true true h = (tt, refl)
both_true true false h = absurd (false≢true h)
both_true false b h = absurd (false≢true h)

same-eq : (xs ys : List ℕ) → same xs ys ≡ true → xs ≡ ys
same-eq [] [] h = refl
same-eq [] (y ∷ ys) h = absurd (false≢true h)
same-eq (x ∷ xs) [] h = absurd (false≢true h)
same-eq (x ∷ xs) (y ∷ ys) h =
    let (e, f) = both_true (eqb x y) (same xs ys) h in ap₂ ◌∷◌ (eqb→eq x y e) (same-eq xs ys f)

abbrev version_of : ℕ → ℕ → ℕ → Version
version_of a b t = record { major = a; minor = b; tag = t }

abbrev HeaderChain : Lang Version
HeaderChain = Then (Such (λ m. same m magic ≡ true) (Raw 8)) (λ m. Then One (λ a. Then One (λ b. Of (λ t. version_of a b t) (Fixed 2))))

to-header : (i : ℕ) (bs : List ℕ) (v : Version) → HeaderChain i bs v → Header bs v
to-header i bs v (then {bs = m} (such_of h (raw_of e)) (then one (then one (of {bs = t} f)))) =
    record {
      tag_bytes = t;
      whole = ap (λ m. m ++ (v.major ∷ (v.minor ∷ t))) (same-eq m magic h);
      tag = fixed-anywhere 2 (i + length m + 1 + 1) 0 t v.tag f;
    }

of-header : (i : ℕ) (bs : List ℕ) (v : Version) → Header bs v → HeaderChain i bs v
of-header i bs v h =
    let f : Fixed 2 (i + 8 + 1 + 1) h.tag_bytes v.tag = fixed-anywhere 2 0 (i + 8 + 1 + 1) h.tag_bytes v.tag h.tag in
    rw h.whole (then {bs = magic} (such_of refl (raw_of refl)) (then one (then one (of f))))

pub header-exact : Exact header_at (λ i. Header)
unfolding header_at magic_at
header-exact =
    same-exact
    (bind-exact (blamed-exact (such-exact _ (λ m. Bool-discrete (same m magic) true) (raw-exact 8)))
    (λ m. bind-exact byte-exact (λ a. bind-exact byte-exact (λ b. map-exact (λ t. version_of a b t) (fixed-exact 2)))))
    (λ i bs v. (to-header i bs v, of-header i bs v))

abbrev AlignedBy : ℕ → Lang (Unit {0})
AlignedBy first i bs u = Alignment first i bs

abbrev AlignmentChain : ℕ → Lang (Unit {0})
AlignmentChain first = If (first < 128) (Is tt) (Then Number (λ a. Pad P a))

aligned-by : (first i : ℕ) (bs : List ℕ) (a : ℕ) (cs : List ℕ) (u : Unit {0}) → 128 ≤ first → Number i bs a →
    Pad P a (i + length bs) cs u → Alignment first i (bs ++ cs)
aligned-by first i bs a _ u k s literal_of = aligned k s

to-alignment : (first i : ℕ) (bs : List ℕ) (u : Unit {0}) → AlignmentChain first i bs u → Alignment first i bs
to-alignment first i bs u (so h is) = unaligned h
to-alignment first i _ u (else h (then {bs = bs} {cs = cs} {v = a} s p)) =
    let k : 128 ≤ first = omega arith in aligned-by first i bs a cs u k s p

of-alignment : (first i : ℕ) (bs : List ℕ) (u : Unit {0}) → Alignment first i bs → AlignmentChain first i bs u
of-alignment first i bs u (unaligned h) = so h is
of-alignment first i bs u (aligned h s) = let k : ¬ (first < 128) = omega arith in else k (then s literal_of)

alignment-exact : (first : ℕ) → Exact (alignment_at first) (AlignedBy first)
unfolding alignment_at
alignment-exact first =
    same-exact (choose-exact (dec_lt first 128) (pure-exact tt) (bind-exact varint-exact padding-exact))
    (λ i bs u. (to-alignment first i bs u, of-alignment first i bs u))

abbrev section_of : ℕ → ℕ → List ℕ → Section
section_of first k p = record { id = first % 128; start = k; payload = p }

abbrev SectionChain : ℕ → Lang Section
SectionChain first =
    Then Number (λ n. Then (AlignedBy first) (λ u. Then At (λ k. Of (λ p. section_of first k p) (Raw n))))

section-chain-exact : (first : ℕ) → Exact (section_at first) (SectionChain first)
unfolding section_at
section-chain-exact first =
    bind-exact varint-exact
    (λ n. bind-exact (alignment-exact first) (λ u. bind-exact place-exact (λ k. map-exact (λ p. section_of first k p) (raw-exact n))))

abbrev ItemChain : Lang (Option Section)
ItemChain = Then One (λ first. If (first % 128 ≡ end_of_bytecode) (Is none) (Of some (SectionChain first)))

to_item : (i : ℕ) (bs : List ℕ) (o : Option Section) → ItemChain i bs o → Item i bs o
to_item i bs o (then one (so h is)) = marker h
to_item i bs o (then (one {b = b}) (else h (of (then {bs = n} s (then {bs = a} g (then at (of (raw_of {bs = p} e)))))))) =
    section
    record {
      first = b;
      size = n;
      alignment = a;
      whole = refl;
      named = refl;
      not_end = h;
      sized = rw (← e) at s;
      aligned_to = g;
      starts = refl;
    }

of-section : (i : ℕ) (bs : List ℕ) (s : Section) → SectionAt i bs s → ItemChain i bs (some s)
of-section i bs s r =
    let c : SectionChain r.first (i + 1) (r.size ++ (r.alignment ++ s.payload))
    (section_of r.first (i + 1 + length r.size + length r.alignment) s.payload) =
    then r.sized (then r.aligned_to (then at (of (raw_of refl)))) in
    let e : section_of r.first (i + 1 + length r.size + length r.alignment) s.payload ≡ s =
    ap₂ (λ n k. record { id = n; start = k; payload = s.payload }) (sym r.named) (sym r.starts) in
    rw r.whole (then one (else r.not_end (of (subst (SectionChain r.first (i + 1) _) e c))))

of-item : (i : ℕ) (bs : List ℕ) (o : Option Section) → Item i bs o → ItemChain i bs o
of-item i bs o (marker h) = then one (so h is)
of-item i bs o (section r) = of-section i bs _ r

pub item-exact : Exact item_at Item
unfolding item_at
item-exact =
    same-exact
    (bind-exact byte-exact
    (λ first. choose-exact (ℕ_discrete (first % 128) end_of_bytecode) (pure-exact none) (map-exact some (section-chain-exact first))))
    (λ i bs o. (to_item i bs o, of-item i bs o))

pub item-some : (i : ℕ) (bs : List ℕ) (o : Option Section) → Item i bs o → 1 ≤ length bs
item-some i bs o (marker h) = omega arith
item-some i bs o (section r) = rw r.whole (omega arith)

-- The walk is exact.
pub sections-exact : Exact sections_at Sections
unfolding sections_at
sections-exact = until-exact item-exact item-some
