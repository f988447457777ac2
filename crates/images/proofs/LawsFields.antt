-- Steps that copy words and runs one after the other are one step that copies them all. Assumes nothing.
use Rattle.std.proofs.Math.Nat.{sub-zero}
use Rattle.std.proofs.Common.{◌≡◌, ℕ, suc, Bool, true, false, refl, ap, ◌+◌, ◌%◌, ◌^◌, ◌<◌, ◌≤◌, List, [], ◌∷◌, ◌++◌, length, get_or, sym, ◌∙◌, subst, inl, inr, add-zero, mod-eq_of_lt, arith, length-append}
use Rattle.sheet.specs.Store.{words_in}
use Rattle.sheet.specs.Lies.{Lies}
use Rattle.images.specs.Put.{Puts, Wrote, Lent}
use Rattle.images.specs.Fields.{bytes_as, many_as, Ready, Moved, Copied, NumberCopied, NumberCopiedWhere, NumbersCopied, WordsSkipped, ListCopied}
use Rattle.images.specs.declared.fields.Number.{Number}
use Rattle.images.specs.declared.fields.Number.TheVariants.{Varint}
use Rattle.images.specs.declared.fields.Pen.{Pen}
use Rattle.sheet.proofs.LawsLies.{lies-front, lies-back, lies-first}
use Rattle.images.proofs.LawsPut.{puts_then, puts_none, wrote-nil}

lent-front : {pool : List ℕ} {i : ℕ} {out : List ℕ} (a b : List ℕ) → Lent pool i (a ++ b) out → Lent pool i a out
lent-front a b (inl h) = inl (lies-front a b h)
lent-front a b (inr e) = inr e

lent_back : {pool : List ℕ} {i at r : ℕ} {bs out mid : List ℕ} (a b : List ℕ) → Lent pool i (a ++ b) out →
    Puts bs at out mid r → Lent pool (i + length a) b mid
lent_back a b (inl h) x = inl (lies-back a b h)
lent_back a b (inr e) x = inr (puts_none e x)

module _ (a ra x b rb y : List ℕ) {s pool : List ℕ} {p : Pen} {out : List ℕ} (h : Ready (a ++ b) (ra ++ rb) (x ++ y) s pool p out) where
  -- What is ready for two steps is ready for the first ..
  pub ready-front : Ready a ra x s pool p out
  ready-front =
      let n = length-append a b in
      let m = length-append ra rb in
      let l = length-append x y in
      let hw = h.words_fit in
      let hr = h.run_fits in
      let hb = h.bytes_fit in
      record {
        words = lies-front a b h.words;
        lent = lent-front ra rb h.lent;
        words_fit = omega arith;
        run_fits = omega arith;
        bytes_fit = omega arith;
      }

  -- .. and, after it, for the second.
  pub ready-back : {mid : List ℕ} {q : Pen} → Moved a ra x p out mid q → Ready b rb y s pool q mid
  ready-back {mid} {q} v =
      let n = length-append a b in
      let m = length-append ra rb in
      let l = length-append x y in
      let hw = h.words_fit in
      let hr = h.run_fits in
      let hb = h.bytes_fit in
      let ew = v.word in
      let er = v.run_end in
      let ep = v.puts.place in
      record {
        words = subst (λ i. Lies (words_in s) i b) (sym ew) (lies-back a b h.words);
        lent = subst (λ i. Lent pool i rb mid) (sym er) (lent_back ra rb h.lent v.puts);
        words_fit = omega arith;
        run_fits = omega arith;
        bytes_fit = omega arith;
      }

pub moved_then : {a ra x b rb y : List ℕ} {p q r : Pen} {out mid out' : List ℕ} → Moved a ra x p out mid q →
    Moved b rb y q mid out' r → Moved (a ++ b) (ra ++ rb) (x ++ y) p out out' r
moved_then {a} {ra} {x} {b} {rb} {y} v w =
    let n = length-append a b in
    let m = length-append ra rb in
    record {
      word = omega (arith, v.word, w.word);
      run_end = omega (arith, v.run_end, w.run_end);
      puts = puts_then v.puts w.puts;
    }

-- Two steps are one.
pub copied-then : {a ra x b rb y s pool : List ℕ} {p q r : Pen} {out mid out' : List ℕ} → Copied a ra x s pool p out mid q →
    Copied b rb y s pool q mid out' r → Copied (a ++ b) (ra ++ rb) (x ++ y) s pool p out out' r
copied-then {a} {ra} {x} {b} {rb} {y} f g =
    record {
      moved =
          λ h.
          let v = f.moved (ready-front a ra x b rb y h) in
          moved_then v (g.moved (ready-back a ra x b rb y h v));
    }

-- No step.
pub copied-nil : {s pool : List ℕ} (p : Pen) (out : List ℕ) → Copied [] [] [] s pool p out out p
copied-nil p out =
    record {
      moved =
          λ h.
          record {
            word = sym (add-zero p.word);
            run_end = sym (add-zero p.run);
            puts = (wrote-nil p.at out).puts h.bytes_fit;
          };
    }

-- Bytes that no word stands for.
pub copied-put : {bs s pool : List ℕ} {p : Pen} {out out' : List ℕ} {next : ℕ} → Wrote bs p.at out out' next →
    Copied [] [] bs s pool p out out' (record { word = p.word; run = p.run; at = next })
copied-put {p = p} x =
    record {
      moved =
          λ h.
          record {
            word = sym (add-zero p.word);
            run_end = sym (add-zero p.run);
            puts = x.puts h.bytes_fit;
          };
    }

-- What is copied may be told by what is ready, and by what the sheet has.
pub copied-ready : {ws run bs s pool : List ℕ} {p q : Pen} {out out' : List ℕ} →
    (Ready ws run bs s pool p out → Copied ws run bs s pool p out out' q) → Copied ws run bs s pool p out out' q
copied-ready f = record { moved = λ h. (f h).moved h }

pub copied-knowing : {ws run bs s pool : List ℕ} {p q : Pen} {out out' : List ℕ} →
    (Lies (words_in s) p.word ws → Copied ws run bs s pool p out out' q) → Copied ws run bs s pool p out out' q
copied-knowing f = copied-ready (λ h. f h.words)

-- The same by other names.
pub copied-as : {ws run bs bs' s pool : List ℕ} {p q : Pen} {out out' : List ℕ} → bs ≡ bs' →
    Copied ws run bs s pool p out out' q → Copied ws run bs' s pool p out out' q
copied-as {ws} {run} {s = s} {pool = pool} {p = p} {q = q} {out = out} {out' = out'} e f =
    subst (λ l. Copied ws run l s pool p out out' q) e f

pub copied_runs : {ws run run' bs s pool : List ℕ} {p q : Pen} {out out' : List ℕ} → run ≡ run' →
    Copied ws run bs s pool p out out' q → Copied ws run' bs s pool p out out' q
copied_runs {ws} {bs = bs} {s = s} {pool = pool} {p = p} {q = q} {out = out} {out' = out'} e f =
    subst (λ l. Copied ws l bs s pool p out out' q) e f

-- The next word was read and put.
pub number-copied : (k : Number) (s : List ℕ) (p : Pen) (out out' : List ℕ) (v w next : ℕ) →
    v ≡ get_or (words_in s) p.word 0 → Wrote (bytes_as k v) p.at out out' next → w ≡ (p.word + 1) % 2 ^ 64 →
    NumberCopied k s p out out' (record { word = w; run = p.run; at = next })
number-copied k s p out out' v w next e x m =
    record {
      each =
          λ pool u.
          record {
            moved =
                λ h.
                let i : v ≡ u = e ∙ lies-first u [] h.words in
                let hw : p.word + 1 < 2 ^ 64 = h.words_fit in
                record {
                  word = m ∙ mod-eq_of_lt hw;
                  run_end = sym (add-zero p.run);
                  puts = (subst (λ z. Wrote (bytes_as k z) p.at out out' next) i x).puts h.bytes_fit;
                };
          };
    }

-- Words that are passed over.
pub words_skipped : {n w : ℕ} (p : Pen) → w ≡ (p.word + n) % 2 ^ 64 → WordsSkipped n p (record { word = w; run = p.run; at = p.at })
words_skipped p e =
    record {
      each =
          λ s pool vs out l.
          record {
            moved =
                λ h.
                let f = h.words_fit in
                record {
                  word = e ∙ mod-eq_of_lt (omega arith) ∙ ap (λ m. p.word + m) (sym l);
                  run_end = sym (add-zero p.run);
                  puts = (wrote-nil p.at out).puts h.bytes_fit;
                };
          };
    }

pub skipped-one : {p q : Pen} → WordsSkipped 1 p q → (s pool out : List ℕ) (v : ℕ) → Copied (v ∷ []) [] [] s pool p out out q
skipped-one x s pool out v = x.each s pool (v ∷ []) out refl

-- A word that is copied where a test holds.
module _ {k : Number} {s : List ℕ} {p q : Pen} {out out' : List ℕ} {b : Bool} where
  pub where_yes : b ≡ true → NumberCopied k s p out out' q → NumberCopiedWhere b k s p out out' q
  where_yes e x = record { each = λ pool v. rw e (x.each pool v) }

  pub where_no : b ≡ false → WordsSkipped 1 p q → out' ≡ out → NumberCopiedWhere b k s p out out' q
  where_no e x o = record { each = λ pool v. rw (e, o) (skipped-one x s pool out v) }

-- No words, or one and then the others.
none_each : (k : Number) (s pool : List ℕ) (p : Pen) (out vs : List ℕ) → length vs ≡ 0 → Copied vs [] (many_as k vs) s pool p out out p
unfolding many_as
none_each k s pool p out [] e = copied-nil p out
none_each k s pool p out (v ∷ vs) e = absurd (omega arith)

pub numbers-none : (k : Number) (n : ℕ) (s : List ℕ) (p : Pen) (out : List ℕ) → n ≤ 0 → NumbersCopied k n s p out out p
numbers-none k n s p out z = record { each = λ pool vs e. let l : length vs ≡ 0 = omega arith in none_each k s pool p out vs l }

more-each : {k : Number} {s : List ℕ} {p q r : Pen} {out mid out' : List ℕ} {n m : ℕ} → n ≡ suc m → NumberCopied k s p out mid q →
    NumbersCopied k m s q mid out' r → (pool vs : List ℕ) → length vs ≡ n → Copied vs [] (many_as k vs) s pool p out out' r
unfolding many_as
more-each e x y pool [] l = absurd (omega arith)
more-each {m = m} e x y pool (v ∷ vs) l =
    let i : length vs ≡ m = omega arith in
    copied-then (x.each pool v) (y.each pool vs i)

pub numbers_more : {k : Number} {s : List ℕ} {p q r : Pen} {out mid out' : List ℕ} {n m : ℕ} → n ≡ suc m →
    NumberCopied k s p out mid q → NumbersCopied k m s q mid out' r → NumbersCopied k n s p out out' r
numbers_more e x y = record { each = more-each e x y }

-- A count, and as many words.
pub list_copied : {k : Number} {s : List ℕ} {p q r : Pen} {out mid out' : List ℕ} {n : ℕ} →
    n ≡ get_or (words_in s) p.word 0 → NumberCopied Varint s p out mid q → NumbersCopied k n s q mid out' r →
    ListCopied k s p out out' r
unfolding bytes_as
list_copied e x y =
    record {
      each =
          λ pool vs.
          copied-knowing
          (λ h. copied-then (x.each pool (length vs)) (y.each pool vs (sym (e ∙ lies-first (length vs) vs h))));
    }

-- The laws by which the check proves what copies or passes over words.
pub ruleset fields = (words_skipped, where_yes, where_no, number-copied, list_copied, sub-zero, numbers-none, numbers_more)
