-- Where the end of a text begins, and where two texts part.
use Rattle.std.specs.Prelude.{◌≡◌, ◌≢◌, ◌==◌, ◌+◌, ◌++◌, ℕ, List, [], ◌∷◌, Option, None, Some, if◌then◌else◌}

-- some text stands before this end
pub record EndsWith (text end : List ℕ) : Type 0 where
  pub before : List ℕ
  pub joined : text ≡ before ++ end

-- how many lines end in a text, each with its LF
abbrev pub line_ends : List ℕ → ℕ
line_ends [] = 0
line_ends (b ∷ bs) = (if b == 10 then 1 else 0) + line_ends bs

-- this end begins at the line of this number, from 1: one more than the lines that end before it
pub record BeginsAtLine (text end : List ℕ) (line : ℕ) : Type 0 where
  pub before : List ℕ
  pub joined : text ≡ before ++ end
  pub counted : line ≡ line_ends before + 1

-- the first byte of a text, if any
abbrev pub first_byte : List ℕ → Option ℕ
first_byte [] = None
first_byte (b ∷ bs) = Some b

-- from here on, with this end, a text isn't the other one, which goes on with more: so far they are the same, and then
-- they go on with other bytes, or one of them ends
pub record PartsFrom (text other end more : List ℕ) : Type 0 where
  pub same : List ℕ
  pub text_is : text ≡ same ++ end
  pub other_is : other ≡ same ++ more
  pub apart : first_byte end ≢ first_byte more
