use Rattle.std.proofs.Common.{◌≡◌, ◌≢◌, ◌∙◌, ℕ, true, false, List, length, sym, refl}
use Rattle.std.specs.Prelude.{[], ◌∷◌}
use Rattle.prepare_look.specs.Kinds.{is_padded, is_text, kind_of, marked_kind, signed_kind}
use Rattle.prepare_look.specs.Missing.{is_missing}
use Rattle.prepare_look.specs.declared.kind.Kind.TheVariants as k
use Rattle.prepare_look.proofs.kind.kind_of.Goals as goal

empty : (f : List ℕ) → length f ≡ 0 → kind_of f ≡ k.Empty
unfolding kind_of
empty [] h = refl
empty (b ∷ bytes) h = absurd (cc h)

padded : (f : List ℕ) → length f ≢ 0 → is_padded f ≡ true → kind_of f ≡ k.Padded
unfolding kind_of
padded [] h e = absurd (h refl)
padded (b ∷ bytes) h e = rw e refl

missing : (f : List ℕ) → length f ≢ 0 → is_padded f ≡ false → is_missing f ≡ true → kind_of f ≡ k.Missing
unfolding kind_of
missing [] h e m = absurd (h refl)
missing (b ∷ bytes) h e m = rw (e, m) refl

marked : (f : List ℕ) → length f ≢ 0 → is_padded f ≡ false → is_missing f ≡ false → is_text (signed_kind f) ≡ true → kind_of f ≡ marked_kind f
unfolding kind_of
marked [] h e m t = absurd (h refl)
marked (b ∷ bytes) h e m t = rw (e, m, t) refl

signed : (f : List ℕ) → length f ≢ 0 → is_padded f ≡ false → is_missing f ≡ false → is_text (signed_kind f) ≡ false → kind_of f ≡ signed_kind f
unfolding kind_of
signed [] h e m t = absurd (h refl)
signed (b ∷ bytes) h e m t = rw (e, m, t) refl

pub returns-then-field-eq0 : goal.returns-then-field-eq0
returns-then-field-eq0 c = sym (empty c.args.field.now c.if-field-eq0.true)

pub returns-then-is_padded : goal.returns-then-is_padded
returns-then-is_padded c = sym (padded c.args.field.now c.if-field-eq0.false (sym c.is_padded.ensures ∙ c.if-is_padded.true))

pub returns-then-is_missing : goal.returns-then-is_missing
returns-then-is_missing c =
    sym (missing c.args.field.now c.if-field-eq0.false (sym c.is_padded.ensures ∙ c.if-is_padded.false) (sym c.is_missing.ensures ∙ c.if-is_missing.true))

pub returns-then-is_text : goal.returns-then-is_text
returns-then-is_text c =
    let t : is_text (signed_kind c.args.field.now) ≡ true = sym (rw c.signed_kind-kind.ensures at c.is_text.ensures) ∙ c.if-is_text.true in
    c.marked_kind.ensures ∙ sym (marked c.args.field.now c.if-field-eq0.false (sym c.is_padded.ensures ∙ c.if-is_padded.false)
    (sym c.is_missing.ensures ∙ c.if-is_missing.false) t)

pub returns : goal.returns
returns c =
    let t : is_text (signed_kind c.args.field.now) ≡ false = sym (rw c.signed_kind-kind.ensures at c.is_text.ensures) ∙ c.if-is_text.false in
    c.signed_kind-kind.ensures ∙ sym (signed c.args.field.now c.if-field-eq0.false (sym c.is_padded.ensures ∙ c.if-is_padded.false)
    (sym c.is_missing.ensures ∙ c.if-is_missing.false) t)
