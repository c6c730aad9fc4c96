-- A dictionary: a rising list of distinct texts, ordered byte by byte. A code is a place in it.
use Rattle.std.specs.Prelude.{◌≡◌, ◌+◌, ◌<◌, ◌≤◌, ◌^◌, ◌++◌, ◌⊎◌, ℕ, List, [], ◌∷◌, length, slice_index_or}
use Rattle.std.specs.declared.cmp.Ordering.{Ordering}
use Rattle.std.specs.declared.cmp.Ordering.TheVariants.{Less, Greater}
use Rattle.std.specs.Cmp.Lexicographic.{slice_cmp}
use Rattle.std.specs.Ordering.{nat_cmp}

-- how two texts stand, byte by byte
abbrev pub text_cmp : List ℕ → List ℕ → Ordering
text_cmp = slice_cmp nat_cmp

-- each text is below each later one
abbrev pub Rises : List (List ℕ) → Type 0
Rises texts = (i j : ℕ) → i < j → j < length texts
    → text_cmp (slice_index_or texts i []) (slice_index_or texts j []) ≡ Less

-- the texts rise, and each has a code of 32 bits
pub record IsDict (texts : List (List ℕ)) : Type 0 where
  pub rises : Rises texts
  pub small : length texts < 2 ^ 32

-- the code stands for the text
pub record IsCode (texts : List (List ℕ)) (text : List ℕ) (code : ℕ) : Type 0 where
  pub inside : code < length texts
  pub stands : slice_index_or texts code [] ≡ text

-- the texts before a place are smaller
abbrev pub IsBelow : List (List ℕ) → List ℕ → ℕ → Type 0
IsBelow texts text place = (k : ℕ) → k < place → text_cmp (slice_index_or texts k []) text ≡ Less

-- the texts from a place on are greater
abbrev pub IsAbove : List (List ℕ) → List ℕ → ℕ → Type 0
IsAbove texts text place = (k : ℕ) → place ≤ k → k < length texts → text_cmp (slice_index_or texts k []) text ≡ Greater

-- just the texts before the place are smaller, and all others are greater: so many are smaller, and the text isn't
-- there
pub record IsGap (texts : List (List ℕ)) (text : List ℕ) (place : ℕ) : Type 0 where
  pub within : place ≤ length texts
  pub below : IsBelow texts text place
  pub above : IsAbove texts text place

-- the text stands at the end under this code: it was there, or was put there
pub record Added (old : List (List ℕ)) (text : List ℕ) (new : List (List ℕ)) (code : ℕ) : Type 0 where
  pub last : code + 1 ≡ length new
  pub is : (new ≡ old) ⊎ (new ≡ old ++ text ∷ [])
  pub here : slice_index_or new code [] ≡ text
