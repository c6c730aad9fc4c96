-- Runs of a class of bytes.
use Rattle.std.proofs.Common.{◌≡◌, ◌<◌, ◌≤◌, ℕ, zero, suc, Bool, true, false, List, [], ◌∷◌, length, take, get_or, Some, None, refl, arith, inl, inr, one-add}
use Rattle.std.specs.List.{prefix_len, list_all}
use Rattle.std.proofs.lemmas.Bool.{cases_Bool}
use Rattle.sql_tokens.specs.Classes.{is_in}
use Rattle.sql_tokens.specs.declared.class.Class.{Class}
use Rattle.sql_tokens.specs.declared.piece.Piece.{Piece}
use Rattle.sql_tokens.specs.Pieces.{when, Longest}

pub when_true : (b : Bool) (p : Piece) → b ≡ true → when b p ≡ Some p
when_true b p e = rw e refl

pub when_false : (b : Bool) (p : Piece) → b ≡ false → when b p ≡ None
when_false b p e = rw e refl

pub prefix_len_le : (p : ℕ → Bool) (bs : List ℕ) → prefix_len p bs ≤ length bs
prefix_len_le p [] = omega arith
prefix_len_le p (b ∷ bs) =
    elim (cases_Bool (p b)) [ inl e ↦ rw e (omega (arith, prefix_len_le p bs)) | inr e ↦ rw e (omega arith) ]

pub prefix_len_pos : (p : ℕ → Bool) (bs : List ℕ) → 0 < length bs → p (get_or bs 0 0) ≡ true → 0 < prefix_len p bs
prefix_len_pos p [] h e = absurd (omega arith)
prefix_len_pos p (b ∷ bs) h e = rw e (omega arith)

-- a run ends at the first byte that is not of the class
pub run_true : (p : ℕ → Bool) (bs : List ℕ) → list_all p (take (prefix_len p bs) bs) ≡ true
run_true p [] = refl
run_true p (b ∷ bs) =
    elim (cases_Bool (p b)) [ inl e ↦ rw (e, one-add, e) (run_true p bs) | inr e ↦ rw e refl ]

pub run_false : (p : ℕ → Bool) (bs : List ℕ) (m : ℕ) → prefix_len p bs < m → m ≤ length bs → list_all p (take m bs) ≡ false
run_false p [] m h k = absurd (omega arith)
run_false p (b ∷ bs) zero h k = absurd (omega arith)
run_false p (b ∷ bs) (suc m) h k =
    elim (cases_Bool (p b)) [ inl e ↦ let h' = rw e at h in rw e (run_false p bs m (omega arith) (omega arith)) | inr e ↦ rw e refl ]

-- a run of a class, whatever it is
pub run_longest : (c : Class) (f : List ℕ → Piece) (bs : List ℕ) (n : ℕ) (p : Piece) → 0 < length bs → is_in c (get_or bs 0 0) ≡ true → n ≡ prefix_len (is_in c) bs → p ≡ f (take n bs) → Longest (λ w. when (list_all (is_in c) w) (f w)) bs (Some (p, n))
run_longest c f bs n p h e k q =
    (rw k (prefix_len_pos (is_in c) bs h e), rw k (prefix_len_le (is_in c) bs), rw (q, k) (when_true _ _ (run_true (is_in c) bs)), λ m j l. when_false _ _ (run_false (is_in c) bs m (omega arith) l))
