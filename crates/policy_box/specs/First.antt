-- The first element that has a property.
use Rattle.std.specs.Prelude.{◌≡◌, ◌∷◌, ◌++◌, List}
use Rattle.std.specs.List.{AllByRecursion}

pub record IsFirstOf {A : Type 0} (Has : A → Type 0) (all : List A) (x : A) : Type 0 where
  pub before : List A
  pub after : List A
  pub parts : all ≡ before ++ x ∷ after
  pub none_before : AllByRecursion (λ (y : A). Has y → ⊥) before
  pub here : Has x
