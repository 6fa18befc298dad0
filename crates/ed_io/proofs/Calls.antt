-- What two calls of a device in a row take and give. The layers above cite these lemmas too.
use Rattle.ed_io.proofs.Kit.{[], ap, arith, drop, false, length, List, None, Option, refl, Some, sym, take, true, ℕ}
use Rattle.ed_io.proofs.Kit.{◌++◌, ◌-◌, ◌<◌, ◌==◌, ◌∙◌, ◌≡◌, take-append-drop, take_rest, Gains, IsAtEnd, Loses}
use Rattle.std.proofs.Common.{length-drop, ◌∷◌, append_assoc}
use Rattle.std.proofs.lemmas.Bool.{ne_eqb}
use Rattle.std.proofs.lemmas.List.{append-nil}
use Rattle.ed_io.specs.Bytes.{GainsPart}

-- two writes, one after the other
pub gains_more : (a b c : Option (List ℕ)) (xs ys : List ℕ) → Gains a b xs → Gains b c ys → Gains a c (xs ++ ys)
gains_more a b None xs ys p q = tt
gains_more a None (Some z) xs ys p q = absurd q
gains_more None (Some y) (Some z) xs ys p q = absurd p
gains_more (Some x) (Some y) (Some z) xs ys p q = rw (q, p) (append_assoc x xs ys)

-- no write
pub gains_none : (a : Option (List ℕ)) → Gains a a []
gains_none None = tt
gains_none (Some x) = sym (append-nil x)

-- writes of the first bytes of a text, and then one that failed
pub gains_part : (a b c : Option (List ℕ)) (text done rest : List ℕ) → text ≡ done ++ rest → Gains a b done
    → Gains b c [] → GainsPart a c text
gains_part a b c text done rest is p q = record {
  part = done ++ [];
  rest = rest;
  whole = is ∙ ap (λ (l : List ℕ). l ++ rest) (sym (append-nil done));
  gains = gains_more a b c done [] p q;
}

-- if nothing of a text is left, all of it has been written
pub gains_all : (a b : Option (List ℕ)) (text done rest : List ℕ) → text ≡ done ++ rest → true ≡ (length rest == 0)
    → Gains a b done → Gains a b text
gains_all a b text done [] is none p = rw (is ∙ append-nil done) p
gains_all a b text done (x ∷ rest) is none p =
    let bad : true ≡ false = none ∙ ne_eqb (length (x ∷ rest)) 0 (omega arith) in absurd (cc)

-- after a byte or more was written, less is left
pub left_after : (rest : List ℕ) (k : ℕ) → false ≡ (length rest == 0) → (0 < length rest → 0 < k)
    → length (take (length rest - k) (drop k rest)) < length rest
left_after [] k more some = absurd (cc)
left_after (x ∷ rest) k more some =
    rw (take_rest (x ∷ rest) k) (omega (arith, length-drop k (x ∷ rest), some (omega arith)))

-- two reads, one after the other
pub loses_more : (a b c : Option (List ℕ)) (xs ys : List ℕ) → Loses a b xs → Loses b c ys → Loses a c (xs ++ ys)
loses_more None None None xs ys p q = tt
loses_more None None (Some z) xs ys p q = q
loses_more None (Some y) c xs ys p q = absurd p
loses_more (Some x) None c xs ys p q = absurd p
loses_more (Some x) (Some y) None xs ys p q = absurd q
loses_more (Some x) (Some y) (Some z) xs ys p q = rw (p, q) (sym (append_assoc xs ys z))

-- no read
pub loses_none : (a : Option (List ℕ)) → Loses a a []
loses_none None = tt
loses_none (Some x) = refl

-- a read that takes nothing leaves a source at its end
pub still_at_end : (a b : Option (List ℕ)) → IsAtEnd a → Loses a b [] → IsAtEnd b
still_at_end None None e l = tt
still_at_end None (Some y) e l = absurd l
still_at_end (Some x) None e l = tt
still_at_end (Some x) (Some y) e l = sym l ∙ e

-- the rest of a text, after n more of its bytes
pub split_more : (t b r : List ℕ) (n : ℕ) → t ≡ b ++ r → t ≡ (b ++ take n r) ++ take (length r - n) (drop n r)
split_more t b r n e =
    e ∙ ap (λ (l : List ℕ). b ++ l)
    (sym (take-append-drop n r) ∙ ap (λ (l : List ℕ). take n r ++ l) (sym (take_rest r n)))
    ∙ sym (append_assoc b (take n r) (take (length r - n) (drop n r)))
