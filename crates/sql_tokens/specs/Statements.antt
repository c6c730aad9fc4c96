-- Where the statements of a batch stand: they are the parts between the ending semicolons that aren't empty.
use Rattle.std.specs.Prelude.{◌≡◌, ℕ, ◌+◌, Bool, true, false, ◌&&◌, if◌then◌else◌}
use Rattle.std.specs.Prelude.{◌==◌, List, [], ◌∷◌, ◌++◌, length, drop}
use Rattle.sql_tokens.specs.Classes.{is_in}
use Rattle.sql_tokens.specs.declared.class.Class.TheVariants as class
use Rattle.sql_tokens.specs.declared.span.Span.{Span}
use Rattle.sql_tokens.specs.declared.statements.Mode.{Mode}
use Rattle.sql_tokens.specs.declared.statements.Mode.TheVariants.{Plain, InText, InName, InComment}
use Rattle.sql_tokens.specs.declared.statements.Mark.{Mark}
use Rattle.sql_tokens.specs.declared.statements.Mark.TheVariants.{Inside, Gap, End}

-- ---- the mark of each byte

abbrev pub begins_dash : List ℕ → Bool
begins_dash [] = false
begins_dash (b ∷ bs) = b == 45

-- The mode behind the byte b, before which it is `mode` and behind which stand bs: ' begins and ends a text, " a quoted
-- name, -- begins a comment and LF ends it.
abbrev pub mode_after : Mode → ℕ → List ℕ → Mode
mode_after Plain b bs = if b == 39 then InText
    else (if b == 34 then InName else (if b == 45 && begins_dash bs then InComment else Plain))
mode_after InText b bs = if b == 39 then Plain else InText
mode_after InName b bs = if b == 34 then Plain else InName
mode_after InComment b bs = if b == 10 then Plain else InComment

-- A semicolon in plain mode ends a statement. White space in plain mode and comments leave it empty.
abbrev pub mark_of : Mode → ℕ → List ℕ → Mark
mark_of Plain b bs = if b == 59 then End
    else (if is_in class.White b then Gap else (if b == 45 && begins_dash bs then Gap else Inside))
mark_of InText b bs = Inside
mark_of InName b bs = Inside
mark_of InComment b bs = Gap

abbrev pub marks : Mode → List ℕ → List Mark
marks mode [] = []
marks mode (b ∷ bs) = mark_of mode b bs ∷ marks (mode_after mode b bs) bs

-- ---- a batch is parts with one End between them

abbrev pub IsPart : List Mark → Type 0
IsPart [] = Unit {0}
IsPart (End ∷ ms) = ⊥
IsPart (Gap ∷ ms) = IsPart ms
IsPart (Inside ∷ ms) = IsPart ms

abbrev pub AreParts : List (List Mark) → Type 0
AreParts [] = Unit {0}
AreParts (p ∷ ps) = IsPart p × AreParts ps

abbrev pub joined : List Mark → List (List Mark) → List Mark
joined first [] = first
joined first (p ∷ ps) = first ++ (End ∷ joined p ps)

abbrev pub is_empty : List Mark → Bool
is_empty [] = true
is_empty (Inside ∷ ms) = false
is_empty (Gap ∷ ms) = is_empty ms
is_empty (End ∷ ms) = is_empty ms

abbrev pub close : ℕ → ℕ → Bool → List Span
close from to true = []
close from to false = record { from = from; to = to } ∷ []

-- where the parts stand that aren't empty
abbrev pub spans_of : ℕ → List Mark → List (List Mark) → List Span
spans_of at first [] = close at (at + length first) (is_empty first)
spans_of at first (p ∷ ps) = close at (at + length first) (is_empty first) ++ spans_of (at + length first + 1) p ps

-- a leading EF BB BF is skipped
abbrev pub start_of : List ℕ → ℕ
start_of [] = 0
start_of (a ∷ []) = 0
start_of (a ∷ b ∷ []) = 0
start_of (a ∷ b ∷ c ∷ bs) = if a == 239 && (b == 187 && c == 191) then 3 else 0

-- The batch has these statements.
pub record HasStatements (bytes : List ℕ) (spans : List Span) : Type 0 where
  pub first : List Mark
  pub more : List (List Mark)
  pub parts : IsPart first × AreParts more
  pub whole : joined first more ≡ marks Plain (drop (start_of bytes) bytes)
  pub stand : spans_of (start_of bytes) first more ≡ spans

-- ---- the same in one pass

abbrev pub statements : ℕ → ℕ → Bool → List Mark → List Span
statements from at empty [] = close from at empty
statements from at empty (End ∷ ms) = close from at empty ++ statements (at + 1) (at + 1) true ms
statements from at empty (Gap ∷ ms) = statements from (at + 1) empty ms
statements from at empty (Inside ∷ ms) = statements from (at + 1) false ms
