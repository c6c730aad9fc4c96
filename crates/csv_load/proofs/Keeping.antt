-- The places of a column's texts, with one more field.
use Rattle.std.proofs.Common.{◌≡◌, ◌≢◌, ◌<◌, ◌++◌, ℕ, List, [], ◌∷◌, arith, refl, sym, length, get_or, map, set, length-append}
use Rattle.std.specs.Prelude.{All, Contains, Option, Some, None, IfSome, Vec}
use Rattle.std.specs.Global.{Global}
use Rattle.std.proofs.lemmas.List.{get_or_append_left, map_push, set_at}
use Rattle.std.proofs.lemmas.List.Elements.{All-head, All-push, All-tail, All-weaker, Contains-append_left, Contains-push}
use Rattle.std.proofs.Math.Seq.{get_or-append_seam}
use Rattle.csv_load.specs.Gathered.{AreKept, ArePlaced}
use Rattle.csv_load.specs.Judged.{Fields}
use Rattle.csv_load.specs.Ranks.{stands_for}
use Rattle.csv_load.specs.Seen.{AreSound}
use Rattle.csv_load.proofs.Sounds.{remembered}

-- a place is within the texts
abbrev pub IsInside : Fields → Option ℕ → Type 0
IsInside texts o = IfSome o (λ c. c < length texts)

placed-more : (texts : Fields) (places : List (Option ℕ)) (o : Option ℕ) → ArePlaced texts places → IsInside texts o → ArePlaced texts (places ++ o ∷ [])
placed-more texts places o is inside =
    let fields = map (stands_for texts) places in
    let one = stands_for texts o ∷ [] in
    record {
      few = is.few;
      filled = is.filled;
      inside = All-push (IsInside texts) places o is.inside inside;
      named = rw (map_push (stands_for texts) places o) (All-weaker (Contains fields) (Contains (fields ++ one)) (λ t found. Contains-append_left fields one t found) texts is.named);
    }

-- a field more whose text is there, or that is empty
pub kept-place : (texts : Fields) (places : List (Option ℕ)) (entries : List (Vec ℕ Global × ℕ)) (o : Option ℕ) → AreKept texts places entries → IsInside texts o
    → AreKept texts (places ++ o ∷ []) entries
kept-place texts places entries o is inside = record { sound = is.sound; placed = placed-more texts places o is.placed inside }

stands-one : (texts : Fields) (t : List ℕ) (o : Option ℕ) → IsInside texts o → stands_for (texts ++ t ∷ []) o ≡ stands_for texts o
stands-one texts t None inside = refl
stands-one texts t (Some c) inside = get_or_append_left texts (t ∷ []) [] c inside

-- with one text more the places stand for the same fields
stands-kept : (texts : Fields) (t : List ℕ) (places : List (Option ℕ)) → All (IsInside texts) places → map (stands_for (texts ++ t ∷ [])) places ≡ map (stands_for texts) places
stands-kept texts t [] inside = refl
stands-kept texts t (o ∷ os) inside =
    rw (stands-one texts t o (All-head (IsInside texts) o os inside), stands-kept texts t os (All-tail (IsInside texts) o os inside)) refl

-- the fields with one more, whose text is new
pub fields-new : (texts : Fields) (places : List (Option ℕ)) (field : List ℕ) → All (IsInside texts) places
    → map (stands_for (texts ++ field ∷ [])) (places ++ Some (length texts) ∷ []) ≡ map (stands_for texts) places ++ field ∷ []
fields-new texts places field inside =
    rw (map_push (stands_for (texts ++ field ∷ [])) places (Some (length texts)), stands-kept texts field places inside, get_or-append_seam texts field [] []) refl

inside-grown : (texts : Fields) (field : List ℕ) (o : Option ℕ) → IsInside texts o → IsInside (texts ++ field ∷ []) o
inside-grown texts field None inside = tt
inside-grown texts field (Some c) inside = omega (arith, inside, length-append texts (field ∷ []))

pub placed-new : (texts : Fields) (places : List (Option ℕ)) (field : List ℕ) → ArePlaced texts places → field ≢ [] → length texts < 4294967295
    → ArePlaced (texts ++ field ∷ []) (places ++ Some (length texts) ∷ [])
placed-new texts places field is filled room =
    let new = texts ++ field ∷ [] in
    let fields = map (stands_for texts) places in
    record {
      few = omega (arith, room, length-append texts (field ∷ []));
      filled = All-push (λ (t : List ℕ). t ≢ []) texts field is.filled filled;
      inside = All-push (IsInside new) places (Some (length texts)) (All-weaker (IsInside texts) (IsInside new) (inside-grown texts field) places is.inside)
          (omega (arith, length-append texts (field ∷ [])));
      named = rw (fields-new texts places field is.inside) (All-push (Contains (fields ++ field ∷ [])) texts field
          (All-weaker (Contains fields) (Contains (fields ++ field ∷ [])) (λ t found. Contains-append_left fields (field ∷ []) t found) texts is.named) (Contains-push fields field));
    }

-- what stands at the last place
pub last-set : (places : List (Option ℕ)) (row : ℕ) (o : Option ℕ) → row ≡ length places → set (places ++ None ∷ []) row o ≡ places ++ o ∷ []
last-set places row o e = set_at places None [] o row (sym e)

-- a field more whose text was put behind the others, and what is looked up still stands there
pub kept-new : (texts : Fields) (places : List (Option ℕ)) (entries more : List (Vec ℕ Global × ℕ)) (field : List ℕ) (count row : ℕ) (grown : Fields) (pushed set_there : List (Option ℕ))
    → AreKept texts places entries → field ≢ [] → count ≡ length texts → count < 4294967295 → row ≡ length places
    → grown ≡ texts ++ field ∷ [] → pushed ≡ places ++ None ∷ [] → set_there ≡ set pushed row (Some count)
    → ((ts : Fields) → AreSound ts entries → count < length ts → get_or ts count [] ≡ field → AreSound ts more)
    → AreKept grown set_there more × (map (stands_for grown) set_there ≡ map (stands_for texts) places ++ field ∷ [])
kept-new texts places entries more field count row grown pushed set_there is filled n room r g p s sound =
    let r2 = remembered texts grown field count entries g n is.sound in
    let there : set_there ≡ places ++ Some count ∷ [] = rw (s, p) (last-set places row (Some count) r) in (
      record { sound = sound grown r2.0 r2.1 r2.2; placed = rw (there, g, n) (placed-new texts places field is.placed filled (omega (arith, room, n))) },
      rw (there, g, n) (fields-new texts places field is.placed.inside),
    )

-- the fields with one more, whose text is there or that is empty
pub fields-place : (texts : Fields) (places grown : List (Option ℕ)) (o : Option ℕ) (old : List (List ℕ)) (field : List ℕ) → map (stands_for texts) places ≡ old
    → grown ≡ places ++ o ∷ [] → stands_for texts o ≡ field → map (stands_for texts) grown ≡ old ++ field ∷ []
fields-place texts places grown o old field is more one = rw (more, map_push (stands_for texts) places o, is, one) refl
