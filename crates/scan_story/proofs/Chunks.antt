-- An eviction takes all pieces of its chunk and no other, and frames are free or not.
use Rattle.std.proofs.Common.{◌≡◌, ◌≢◌, ◌+◌, ◌==◌, ◌∷◌, ◌||◌, not, ℕ, zero, suc, Bool, true, false, Option, None, Some, if◌then◌else◌, refl, sym, ◌∙◌, ap, arith}
use Rattle.std.proofs.lemmas.Bool.Decides.{nat_tests}
use Rattle.scan_story.specs.declared.setting.Setting.{Setting}
use Rattle.scan_story.specs.declared.entry.Entry.TheVariants.{Evict}
use Rattle.scan_story.specs.Counting.{any_below, count_below, is_number}
use Rattle.scan_story.specs.Setting.{chunk_of}
use Rattle.scan_story.specs.Views.{History, kept_from, piece_in, is_framed}
use Rattle.scan_story.specs.Loads.{is_free, free_frames}
use Rattle.scan_story.proofs.Counts.{below_all}

same_number : (a b : ℕ) → (a == b) ≡ true → a ≡ b
same_number a b e = grind (arith, nat_tests)

equal_number : (a b : ℕ) → a ≡ b → (a == b) ≡ true
equal_number a b e = grind (arith, nat_tests)

other_number : (a b : ℕ) → a ≢ b → (a == b) ≡ false
other_number a b n = grind (arith, nat_tests, n)

pub any_none : (p : ℕ → Bool) (n : ℕ) → ((k : ℕ) → p k ≡ false) → any_below p n ≡ false
any_none p zero none = refl
any_none p (suc n) none = ap (λ (b : Bool). b || any_below p n) (none n) ∙ any_none p n none

pub any_same : (p q : ℕ → Bool) (n : ℕ) → ((k : ℕ) → p k ≡ q k) → any_below p n ≡ any_below q n
any_same p q zero same = refl
any_same p q (suc n) same = ap (λ (b : Bool). b || any_below p n) (same n) ∙ ap (λ (b : Bool). q n || b) (any_same p q n same)

drops : (s : Setting) (c p : ℕ) → chunk_of s p ≡ c → (o : Option ℕ) → is_number p (kept_from s c o) ≡ false
drops s c p of None = refl
drops s c p of (Some x) =
    elim (chunk_of s x == c) as (λ b. (chunk_of s x == c) ≡ b → is_number p (if b then None else Some x) ≡ false) [
      | true ↦ λ t. refl
      | false ↦ λ t. other_number x p (λ e. let k : (chunk_of s x == c) ≡ true = equal_number (chunk_of s x) c (ap (chunk_of s) e ∙ of) in absurd cc)
    ] refl

keeps : (s : Setting) (c p : ℕ) → chunk_of s p ≢ c → (o : Option ℕ) → is_number p (kept_from s c o) ≡ is_number p o
keeps s c p of None = refl
keeps s c p of (Some x) =
    elim (chunk_of s x == c) as (λ b. (chunk_of s x == c) ≡ b → is_number p (if b then None else Some x) ≡ (x == p)) [
      | true ↦ λ t. sym (other_number x p (λ e. of (sym (ap (chunk_of s) e) ∙ same_number (chunk_of s x) c t)))
      | false ↦ λ t. refl
    ] refl

-- no piece of the evicted chunk is left in a frame
pub evict_drops : (s : Setting) (h : History) (w c p : ℕ) → chunk_of s p ≡ c → is_framed s (Evict w c ∷ h) p ≡ false
evict_drops s h w c p of = any_none (λ f. is_number p (kept_from s c (piece_in s h f))) s.frames (λ f. drops s c p of (piece_in s h f))

-- and each piece of another chunk stays
pub evict_keeps : (s : Setting) (h : History) (w c p : ℕ) → chunk_of s p ≢ c → is_framed s (Evict w c ∷ h) p ≡ is_framed s h p
evict_keeps s h w c p of = any_same (λ f. is_number p (kept_from s c (piece_in s h f))) (λ f. is_number p (piece_in s h f)) s.frames (λ f. keeps s c p of (piece_in s h f))

-- the free frames and the others are all
pub frames_counted : (s : Setting) (h : History) → free_frames s h + count_below (λ f. not (is_free s h f)) s.frames ≡ s.frames
frames_counted s h = below_all (is_free s h) s.frames
