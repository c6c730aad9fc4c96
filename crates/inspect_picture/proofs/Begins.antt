-- A delivery's mark is begun where its entry is.
use Rattle.std.proofs.Common.{◌≡◌, ◌==◌, ◌∙◌, ◌∷◌, [], ℕ, suc, Bool, true, false, List, refl, ap}
use Rattle.std.specs.Prelude.{if◌then◌else◌}
use Rattle.scan_story.specs.declared.entry.Entry.{Entry}
use Rattle.scan_story.specs.declared.entry.Entry.TheVariants.{Register, Plan, Evict, Fill, Filled, Failed, Deliver, Release, Stop, End}
use Rattle.inspect_picture.specs.declared.delivery.Delivery.{Delivery}
use Rattle.inspect_picture.specs.Given.{Delivered, delivered, delivered_from, deliveries_in}
use Rattle.inspect_picture.specs.Marks.{delivery, delivery_of, marks_from}

abbrev begin_of : Delivery → Delivered
begin_of d = delivered d.first d.query d.chunk

begins : (w q c a i : ℕ) (es : List Entry) → begin_of (delivery_of w q c a i es) ≡ delivered a q c
begins w q c a i [] = refl
begins w q c a i (Register v r ∷ es) = begins w q c a (suc i) es
begins w q c a i (Plan v r d ∷ es) = begins w q c a (suc i) es
begins w q c a i (Evict v d ∷ es) = begins w q c a (suc i) es
begins w q c a i (Fill v g p ∷ es) = begins w q c a (suc i) es
begins w q c a i (Filled v g p ∷ es) = begins w q c a (suc i) es
begins w q c a i (Failed v r p vhy ∷ es) = begins w q c a (suc i) es
begins w q c a i (Deliver v r d ∷ es) = at (v == w) (begins w q c a (suc i) es)
  where
    at : (t : Bool) → begin_of (delivery_of w q c a (suc i) es) ≡ delivered a q c → begin_of (if t then delivery w q c a i else delivery_of w q c a (suc i) es) ≡ delivered a q c
    at true again = refl
    at false again = again
begins w q c a i (Release v r d ∷ es) = at (v == w) (begins w q c a (suc i) es)
  where
    at : (t : Bool) → begin_of (delivery_of w q c a (suc i) es) ≡ delivered a q c → begin_of (if t then delivery w q c a i else delivery_of w q c a (suc i) es) ≡ delivered a q c
    at true again = refl
    at false again = again
begins w q c a i (Stop v r ∷ es) = begins w q c a (suc i) es
begins w q c a i (End v r ∷ es) = begins w q c a (suc i) es

pub deliveries_marked : (groups i : ℕ) (es : List Entry) → deliveries_in (marks_from groups i es) ≡ delivered_from i es
deliveries_marked groups i [] = refl
deliveries_marked groups i (Deliver w q c ∷ es) =
    ap (λ d. d ∷ deliveries_in (marks_from groups (suc i) es)) (begins w q c i (suc i) es) ∙ ap (λ ds. delivered i q c ∷ ds) (deliveries_marked groups (suc i) es)
deliveries_marked groups i (Register w q ∷ es) = deliveries_marked groups (suc i) es
deliveries_marked groups i (Plan w q c ∷ es) = deliveries_marked groups (suc i) es
deliveries_marked groups i (Evict w c ∷ es) = deliveries_marked groups (suc i) es
deliveries_marked groups i (Fill w g p ∷ es) = deliveries_marked groups (suc i) es
deliveries_marked groups i (Filled w g p ∷ es) = deliveries_marked groups (suc i) es
deliveries_marked groups i (Failed w q p why ∷ es) = deliveries_marked groups (suc i) es
deliveries_marked groups i (Release w q c ∷ es) = deliveries_marked groups (suc i) es
deliveries_marked groups i (Stop w q ∷ es) = deliveries_marked groups (suc i) es
deliveries_marked groups i (End w q ∷ es) = deliveries_marked groups (suc i) es
