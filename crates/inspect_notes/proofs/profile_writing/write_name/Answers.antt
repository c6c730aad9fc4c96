use Rattle.std.proofs.Common.{◌≡◌, ◌∙◌, ◌++◌, ◌∷◌, [], ℕ, List, sym, ap, append_assoc, drop, take, rules}
use Rattle.std.specs.List.{flat_map}
use Rattle.std.proofs.lemmas.Grind.{flat_map-append}
use Rattle.std.proofs.lemmas.List.{take-append-drop}
use Rattle.sql_writing.specs.Writing.{doubled, name_text}
use Rattle.table_core.specs.Writing.{GrewByPrefix}
use Rattle.inspect_notes.proofs.profile_writing.write_name.Goals as goal

-- what is written of a name up to one of its bytes is a prefix of the quoted name
stopped_at : (old new name : List ℕ) (i : ℕ) → new ≡ old ++ (34 ∷ flat_map doubled (take i name)) → GrewByPrefix old new (name_text name)
stopped_at old new name i grew =
    let before = flat_map doubled (take i name) in
    let behind = flat_map doubled (drop i name) in
    let whole = ap (flat_map doubled) (sym (take-append-drop i name)) ∙ flat_map-append doubled (take i name) (drop i name) in
    record {
      part = 34 ∷ before;
      rest = behind ++ 34 ∷ [];
      grew = grew;
      begins = ap (λ t. 34 ∷ (t ++ 34 ∷ [])) whole ∙ ap (λ t. 34 ∷ t) (append_assoc before behind (34 ∷ []));
    }

pub returns-in_err-append-2-clause-memory : goal.returns-in_err-append-2-clause-memory
returns-in_err-append-2-clause-memory c =
    let grew = stopped_at _ _ c.args.name.now c.loop-byte.byte-index (c.in_err-append-2.ensures.err ∙ c.loop-byte.invariant) in
    search rules

pub returns-in_err-append-3-clause-memory : goal.returns-in_err-append-3-clause-memory
returns-in_err-append-3-clause-memory c =
    let grew = stopped_at _ _ c.args.name.now c.loop-byte.byte-index (c.in_err-append-3.ensures.err ∙ c.loop-byte.invariant) in
    search rules
