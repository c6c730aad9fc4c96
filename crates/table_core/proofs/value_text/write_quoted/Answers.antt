use Rattle.std.proofs.Common.{◌≡◌, ◌∙◌, ◌++◌, ◌∷◌, [], ℕ, List, sym, ap, append_assoc, drop, take, rules}
use Rattle.std.specs.List.{flat_map}
use Rattle.std.proofs.lemmas.Grind.{flat_map-append}
use Rattle.std.proofs.lemmas.List.{take-append-drop}
use Rattle.table_core.specs.Value.{quoted, quoted_byte}
use Rattle.table_core.specs.Writing.{GrewByPrefix}
use Rattle.table_core.proofs.value_text.write_quoted.Goals as goal

-- what is written of a text up to one of its bytes is a prefix of the quoted text
stopped_at : (old new text : List ℕ) (i : ℕ) → new ≡ old ++ (39 ∷ flat_map quoted_byte (take i text)) → GrewByPrefix old new (quoted text)
stopped_at old new text i grew =
    let before = flat_map quoted_byte (take i text) in
    let behind = flat_map quoted_byte (drop i text) in
    let whole = ap (flat_map quoted_byte) (sym (take-append-drop i text)) ∙ flat_map-append quoted_byte (take i text) (drop i text) in
    record {
      part = 39 ∷ before;
      rest = behind ++ 39 ∷ [];
      grew = grew;
      begins = ap (λ t. 39 ∷ (t ++ 39 ∷ [])) whole ∙ ap (λ t. 39 ∷ t) (append_assoc before behind (39 ∷ []));
    }

pub returns-in_err-append-2-clause-memory : goal.returns-in_err-append-2-clause-memory
returns-in_err-append-2-clause-memory c =
    let grew = stopped_at _ _ c.args.text.now c.loop-byte.byte-index (c.in_err-append-2.ensures.err ∙ c.loop-byte.invariant) in
    search rules

pub returns-in_err-append-3-clause-memory : goal.returns-in_err-append-3-clause-memory
returns-in_err-append-3-clause-memory c =
    let grew = stopped_at _ _ c.args.text.now c.loop-byte.byte-index (c.in_err-append-3.ensures.err ∙ c.loop-byte.invariant) in
    search rules
