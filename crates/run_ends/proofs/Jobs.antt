-- The job that words and policies give.
use Rattle.std.proofs.Common.{◌≡◌, ◌≢◌, ◌∷◌, [], ◌++◌, ◌⊎◌, inl, inr, ℕ, List, Option, Some, None, true, false, map, refl, sym}
use Rattle.std.specs.List.{AllByRecursion}
use Rattle.command_words.specs.Options.{Request}
use Rattle.policy_box.specs.First.{IsFirstOf}
use Rattle.scan_story.specs.declared.setting.PolicyName.{PolicyName}
use Rattle.scan_story.specs.declared.setting.PolicyName.TheVariants.{Relevance, Elevator, Normal, Attach}
use Rattle.run_ends.specs.Policies.{PolicyAt, policy_at}
use Rattle.run_ends.specs.Jobs.{first_named, is_named, job_of, alone, compared, refused}

-- a name is the wanted one, or the test says no
named_or_not : (a b : PolicyName) → (a ≡ b) ⊎ (is_named a b ≡ false)
named_or_not Relevance Relevance = inl refl
named_or_not Relevance Elevator = inr refl
named_or_not Relevance Normal = inr refl
named_or_not Relevance Attach = inr refl
named_or_not Elevator Relevance = inr refl
named_or_not Elevator Elevator = inl refl
named_or_not Elevator Normal = inr refl
named_or_not Elevator Attach = inr refl
named_or_not Normal Relevance = inr refl
named_or_not Normal Elevator = inr refl
named_or_not Normal Normal = inl refl
named_or_not Normal Attach = inr refl
named_or_not Attach Relevance = inr refl
named_or_not Attach Elevator = inr refl
named_or_not Attach Normal = inr refl
named_or_not Attach Attach = inl refl

is_named_same : (a : PolicyName) → is_named a a ≡ true
is_named_same Relevance = refl
is_named_same Elevator = refl
is_named_same Normal = refl
is_named_same Attach = refl

-- the first policy of a name, where a search finds it
module _ {P : Type 0} (name : P → PolicyName) (cursor : P → List ℕ) (wanted : PolicyName) where
  abbrev at : List P → List PolicyAt
  at policies = map (λ p. policy_at (name p) (cursor p)) policies

  first_after : (before after : List P) (x : P) → AllByRecursion (λ (p : P). name p ≡ wanted → ⊥) before → name x ≡ wanted → first_named wanted (at (before ++ x ∷ after)) ≡ Some (policy_at (name x) (cursor x))
  first_after [] after x none here = rw (here, is_named_same wanted) refl
  first_after (p ∷ before) after x none here = elim (named_or_not wanted (name p)) [
    | inl same ↦ absurd (none.0 (sym same))
    | inr not ↦ rw not (first_after before after x none.1 here)
  ]

  pub first_taken : (policies : List P) (x : P) → IsFirstOf (λ (p : P). name p ≡ wanted) policies x → first_named wanted (at policies) ≡ Some (policy_at (name x) (cursor x))
  first_taken policies x is = rw is.parts (first_after is.before is.after x is.none_before is.here)

  pub none_taken : (policies : List P) → AllByRecursion (λ (p : P). name p ≢ wanted) policies → first_named wanted (at policies) ≡ None
  none_taken [] none = refl
  none_taken (p ∷ policies) none = elim (named_or_not wanted (name p)) [
    | inl same ↦ absurd (none.0 (sym same))
    | inr not ↦ rw not (none_taken policies none.1)
  ]

-- there is nothing to do where the words are refused, and where no policy of the name is there
pub refused-job : (ps : List PolicyAt) (asked : Option Request) → asked ≡ None → job_of ps asked ≡ refused
refused-job ps asked none = rw none refl

pub missing-job : (ps : List PolicyAt) (asked : Option Request) (r : Request) → asked ≡ Some r → r.compare ≡ false → first_named r.policy ps ≡ None → job_of ps asked ≡ refused
missing-job ps asked r is single none = rw (is, single, none) refl

-- else there is a comparison, or a run with one policy
pub compared-job : (ps : List PolicyAt) (asked : Option Request) (r : Request) → asked ≡ Some r → r.compare ≡ true → job_of ps asked ≡ compared r ps
compared-job ps asked r is compare = rw (is, compare) refl

pub alone-job : (ps : List PolicyAt) (asked : Option Request) (r : Request) (p : PolicyAt) → asked ≡ Some r → r.compare ≡ false → first_named r.policy ps ≡ Some p → job_of ps asked ≡ alone r p
alone-job ps asked r p is single first = rw (is, single, first) refl
