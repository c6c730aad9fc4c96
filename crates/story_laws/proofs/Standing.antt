-- What stands in frames, and what each entry leaves there.
use Rattle.std.proofs.Common.{◌≡◌, ◌<◌, ◌∷◌, ◌==◌, not, ℕ, Bool, true, false, if◌then◌else◌, Option, None, Some, is_none, refl, sym, ◌∙◌, ap}
use Rattle.scan_story.specs.declared.entry.Entry.TheVariants.{Evict, Fill, Filled}
use Rattle.scan_story.specs.declared.setting.Setting.{Setting}
use Rattle.scan_story.specs.Counting.{has, is_number}
use Rattle.scan_story.specs.Loads.{fills_frame, is_free, underway}
use Rattle.scan_story.specs.Setting.{chunk_of, pieces_read}
use Rattle.scan_story.specs.Views.{History, is_framed, is_wholly_framed, kept_from, piece_in}
use Rattle.scan_story.proofs.Chunks.{evict_drops}
use Rattle.story_laws.proofs.Bools.{and_both, if_here, if_other, none_some, not_both, other_number, same_number, same_some, self_number, unequal}
use Rattle.story_laws.proofs.Counts.{any_at, any_find}
use Rattle.story_laws.proofs.Lists.{all_has, all_of}

-- A piece is framed exactly where it stands in a frame

is_some_number : (p : ℕ) (o : Option ℕ) → is_number p o ≡ true → o ≡ Some p
is_some_number p None e = absurd cc
is_some_number p (Some x) e = ap Some (same_number x p e)

number_of_some : (p : ℕ) (o : Option ℕ) → o ≡ Some p → is_number p o ≡ true
number_of_some p o e = ap (is_number p) e ∙ self_number p

pub framed_at : (s : Setting) (h : History) (f p : ℕ) → f < s.frames → piece_in s h f ≡ Some p → is_framed s h p ≡ true
framed_at s h f p lt e = any_at (λ g. is_number p (piece_in s h g)) s.frames f lt (number_of_some p (piece_in s h f) e)

pub framed_where : (s : Setting) (h : History) (p : ℕ) → is_framed s h p ≡ true → (f : ℕ) × (f < s.frames) × (piece_in s h f ≡ Some p)
framed_where s h p e =
    let j = any_find (λ g. is_number p (piece_in s h g)) s.frames e in (j.0, j.1, is_some_number p (piece_in s h j.0) j.2)

-- in another history each piece that stands in a frame stands in that frame too
pub framed_more : (s : Setting) (h k : History) → ((f p : ℕ) → f < s.frames → piece_in s h f ≡ Some p → piece_in s k f ≡ Some p) → (p : ℕ) → is_framed s h p ≡ true → is_framed s k p ≡ true
framed_more s h k stays p e = let j = framed_where s h p e in framed_at s k j.0 p j.1 (stays j.0 p j.1 j.2)

pub unframed : (s : Setting) (h : History) (f p : ℕ) → is_framed s h p ≡ false → f < s.frames → piece_in s h f ≡ Some p → ⊥
unframed s h f p off lt e = not_both (is_framed s h p) (framed_at s h f p lt e) off

-- Wholly framed, and available

pub whole_more : (s : Setting) (h k : History) (q c : ℕ) → ((p : ℕ) → has (pieces_read s q c) p ≡ true → is_framed s h p ≡ true → is_framed s k p ≡ true)
    → is_wholly_framed s h q c ≡ true → is_wholly_framed s k q c ≡ true
whole_more s h k q c f e = all_of (is_framed s k) (pieces_read s q c) (λ p m. f p m (all_has (is_framed s h) (pieces_read s q c) p e m))

-- Entries that change frames

pub free_empty : (s : Setting) (h : History) (f : ℕ) → is_free s h f ≡ true → piece_in s h f ≡ None
free_empty s h f e = none_is (piece_in s h f) (and_both (is_none (piece_in s h f)) (not (fills_frame f (underway s h))) e).0
  where
    none_is : (o : Option ℕ) → is_none o ≡ true → o ≡ None
    none_is None e = refl
    none_is (Some x) e = absurd cc

-- a frame with a piece is another one than an empty frame
full_is_other : (s : Setting) (h : History) (f g p : ℕ) → piece_in s h f ≡ None → piece_in s h g ≡ Some p → (f == g) ≡ false
full_is_other s h f g p none e = other_number f g (λ same. none_some p (sym none ∙ (ap (piece_in s h) same ∙ e)))

pub fill_leaves : (s : Setting) (h : History) (w f x : ℕ) → piece_in s h f ≡ None → (g p : ℕ) → piece_in s h g ≡ Some p → piece_in s (Fill w f x ∷ h) g ≡ Some p
fill_leaves s h w f x none g p e = if_other (f == g) None (piece_in s h g) (full_is_other s h f g p none e) ∙ e

pub fill_brings_none : (s : Setting) (h : History) (w f x g p : ℕ) → piece_in s (Fill w f x ∷ h) g ≡ Some p → piece_in s h g ≡ Some p
fill_brings_none s h w f x g p e = old (f == g) (piece_in s h g) e
  where
    old : (b : Bool) (o : Option ℕ) → (if b then None else o) ≡ Some p → o ≡ Some p
    old true o e = absurd (none_some p e)
    old false o e = e

pub filled_leaves : (s : Setting) (h : History) (w f x : ℕ) → piece_in s h f ≡ None → (g p : ℕ) → piece_in s h g ≡ Some p → piece_in s (Filled w f x ∷ h) g ≡ Some p
filled_leaves s h w f x none g p e = if_other (f == g) (Some x) (piece_in s h g) (full_is_other s h f g p none e) ∙ e

pub filled_brings : (s : Setting) (h : History) (w f x : ℕ) → piece_in s (Filled w f x ∷ h) f ≡ Some x
filled_brings s h w f x = if_here (f == f) (Some x) (piece_in s h f) (self_number f)

-- and no other piece
pub filled_brings_one : (s : Setting) (h : History) (w f x g p : ℕ) → (x == p) ≡ false → piece_in s (Filled w f x ∷ h) g ≡ Some p → piece_in s h g ≡ Some p
filled_brings_one s h w f x g p ne e = old (f == g) (piece_in s h g) e
  where
    old : (b : Bool) (o : Option ℕ) → (if b then Some x else o) ≡ Some p → o ≡ Some p
    old true o e = absurd (unequal x p ne (same_some x p e))
    old false o e = e

pub evict_brings_none : (s : Setting) (h : History) (w c g p : ℕ) → piece_in s (Evict w c ∷ h) g ≡ Some p → piece_in s h g ≡ Some p
evict_brings_none s h w c g p e = old (piece_in s h g) e
  where
    kept : (b : Bool) (x : ℕ) → (if b then None else Some x) ≡ Some p → Some x ≡ Some p
    kept true x e = absurd (none_some p e)
    kept false x e = e

    old : (o : Option ℕ) → kept_from s c o ≡ Some p → o ≡ Some p
    old None e = absurd (none_some p e)
    old (Some x) e = kept (chunk_of s x == c) x e

pub evict_leaves : (s : Setting) (h : History) (w c g p : ℕ) → (chunk_of s p == c) ≡ false → piece_in s h g ≡ Some p → piece_in s (Evict w c ∷ h) g ≡ Some p
evict_leaves s h w c g p ne e = ap (kept_from s c) e ∙ if_other (chunk_of s p == c) None (Some p) ne

pub evict_takes : (s : Setting) (h : History) (w c p : ℕ) → chunk_of s p ≡ c → is_framed s (Evict w c ∷ h) p ≡ false
evict_takes s h w c p of = evict_drops s h w c p of
