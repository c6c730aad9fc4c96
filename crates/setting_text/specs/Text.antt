-- The text of a setting.
use Rattle.std.specs.Prelude.{◌+◌, ℕ, List, [], ◌∷◌, ◌++◌, Option, None, Some, codes, decimal, map}
use Rattle.std.specs.List.{flat_map, join_with_byte}
use Rattle.scan_story.specs.declared.setting.Need.{Need}
use Rattle.scan_story.specs.declared.setting.PolicyName.{PolicyName}
use Rattle.scan_story.specs.declared.setting.PolicyName.TheVariants.{Relevance, Elevator, Normal, Attach}
use Rattle.setting_text.specs.declared.head.Head.{Head}

-- numbers with commas between, or a dash where there is none
abbrev pub list_text : List ℕ → List ℕ
list_text [] = codes "-"
list_text (n ∷ ns) = decimal n ++ flat_map (λ (m : ℕ). 44 ∷ decimal m) ns

-- the name of a policy, or that choices are free
abbrev pub policy_text : Option PolicyName → List ℕ
policy_text None = codes "any"
policy_text (Some Relevance) = codes "relevance"
policy_text (Some Elevator) = codes "elevator"
policy_text (Some Normal) = codes "normal"
policy_text (Some Attach) = codes "attach"

-- the words of the first line
abbrev pub head_words : Head → List (List ℕ)
head_words h =
    codes "workers" ∷ decimal h.workers ∷ codes "frames" ∷ decimal h.frames ∷ codes "chunks" ∷ decimal h.chunks
    ∷ codes "groups" ∷ decimal h.groups ∷ codes "policy" ∷ policy_text h.policy ∷ []

-- the words of a query's line
abbrev pub need_words : Need → List (List ℕ)
need_words n =
    codes "query" ∷ decimal n.query ∷ codes "worker" ∷ decimal n.worker ∷ codes "chunks" ∷ list_text n.chunks
    ∷ codes "columns" ∷ list_text n.columns ∷ []

-- a blank stands between two words
abbrev pub head_line : Head → List ℕ
head_line h = join_with_byte 32 (head_words h)

abbrev pub need_line : Need → List ℕ
need_line n = join_with_byte 32 (need_words n)

-- lines, each with its end
abbrev pub ended : List (List ℕ) → List ℕ
ended lines = flat_map (λ (l : List ℕ). l ++ 10 ∷ []) lines

-- THE TEXT of a setting: the first line, and a line for each query
abbrev pub setting_text : Head → List Need → List ℕ
setting_text h needs = ended (head_line h ∷ map need_line needs)
