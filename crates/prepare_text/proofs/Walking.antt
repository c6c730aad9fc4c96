-- One byte more of a text.
use Rattle.std.proofs.Common.{◌≡◌, ◌+◌, ◌<◌, ◌≤◌, ℕ, true, false, List, [], ◌∷◌, ◌++◌, length, drop, get_or, refl, ap, ◌∙◌, arith, add-one, drop-cons, inl, inr}
use Rattle.std.specs.Prelude.{◌⊎◌}
use Rattle.csv.specs.Machine.{is_end, step}
use Rattle.csv.specs.Reading.{strip_bom}
use Rattle.csv.specs.declared.parser.Config.{Config}
use Rattle.prepare_text.specs.Source.{has_mark}
use Rattle.prepare_text.specs.Walk.{Walk, ended, lined, onward, walked}

front : (xs : List ℕ) (i : ℕ) → i < length xs → drop i xs ≡ get_or xs i 0 ∷ drop (i + 1) xs
front xs i lt = rw add-one (drop-cons xs i 0 lt)

goes-on : (cfg : Config) (w : Walk) (b : ℕ) (more : List ℕ) → is_end (step cfg w.state b).1 ≡ false → lined cfg w (b ∷ more) ≡ lined cfg (walked cfg w b) more
unfolding lined
goes-on cfg w b more e = rw e refl

comes-to-end : (cfg : Config) (w : Walk) (b : ℕ) (more : List ℕ) → is_end (step cfg w.state b).1 ≡ true
    → lined cfg w (b ∷ more) ≡ ended (walked cfg w b) ∷ lined cfg (onward (walked cfg w b)) more
unfolding lined
comes-to-end cfg w b more e = rw e refl

-- a byte that ends no record
pub next-byte : (cfg : Config) (w : Walk) (xs more : List ℕ) (i : ℕ) → i < length xs → is_end (step cfg w.state (get_or xs i 0)).1 ≡ false
    → lined cfg w (drop i xs ++ more) ≡ lined cfg (walked cfg w (get_or xs i 0)) (drop (i + 1) xs ++ more)
next-byte cfg w xs more i lt e = ap (λ (l : List ℕ). lined cfg w (l ++ more)) (front xs i lt) ∙ goes-on cfg w (get_or xs i 0) (drop (i + 1) xs ++ more) e

-- one that does
pub end-byte : (cfg : Config) (w : Walk) (xs more : List ℕ) (i : ℕ) → i < length xs → is_end (step cfg w.state (get_or xs i 0)).1 ≡ true
    → lined cfg w (drop i xs ++ more) ≡ ended (walked cfg w (get_or xs i 0)) ∷ lined cfg (onward (walked cfg w (get_or xs i 0))) (drop (i + 1) xs ++ more)
end-byte cfg w xs more i lt e = ap (λ (l : List ℕ). lined cfg w (l ++ more)) (front xs i lt) ∙ comes-to-end cfg w (get_or xs i 0) (drop (i + 1) xs ++ more) e

-- ---- the byte order mark

pub marked : (text more : List ℕ) → has_mark text ≡ true → strip_bom (text ++ more) ≡ drop 3 text ++ more
unfolding strip_bom
marked [] more e = cc e
marked (a ∷ []) more e = cc e
marked (a ∷ b ∷ []) more e = cc e
marked (a ∷ b ∷ c ∷ rest) more e = rw e refl

pub unmarked : (text more : List ℕ) → has_mark text ≡ false → (3 ≤ length text) ⊎ (more ≡ []) → strip_bom (text ++ more) ≡ text ++ more
unfolding strip_bom
unmarked [] more e (inl le) = absurd (omega arith)
unmarked [] more e (inr n) = rw n refl
unmarked (a ∷ []) more e (inl le) = absurd (omega arith)
unmarked (a ∷ []) more e (inr n) = rw n refl
unmarked (a ∷ b ∷ []) more e (inl le) = absurd (omega arith)
unmarked (a ∷ b ∷ []) more e (inr n) = rw n refl
unmarked (a ∷ b ∷ c ∷ rest) more e any = rw e refl
