-- Texts that are written one behind the other, up to where memory ran out.
use Rattle.std.proofs.Common.{◌≡◌, ◌∙◌, ◌++◌, List, ℕ, sym, ap, append_assoc}
use Rattle.table_core.specs.Writing.{GrewByPrefix}

-- a prefix of the first text is a prefix of both
pub grew_in_first : {old new first : List ℕ} (second : List ℕ) → GrewByPrefix old new first → GrewByPrefix old new (first ++ second)
grew_in_first second by = record {
  part = by.part;
  rest = by.rest ++ second;
  grew = by.grew;
  begins = ap (λ t. t ++ second) by.begins ∙ append_assoc by.part by.rest second;
}

-- behind the whole first text a prefix of the second is a prefix of both
pub grew_in_second : {mid new second : List ℕ} (old first : List ℕ) → mid ≡ old ++ first → GrewByPrefix mid new second → GrewByPrefix old new (first ++ second)
grew_in_second old first whole by = record {
  part = first ++ by.part;
  rest = by.rest;
  grew = by.grew ∙ ap (λ t. t ++ by.part) whole ∙ append_assoc old first by.part;
  begins = ap (λ t. first ++ t) by.begins ∙ sym (append_assoc first by.part by.rest);
}
