-- Clients and frames before the first entry.
use Rattle.std.proofs.Common.{◌≡◌, ◌<◌, ◌∷◌, [], ◌==◌, ◌&&◌, ℕ, Bool, true, false, if◌then◌else◌, List, length, map, set, Option, None, Some, refl, sym, ◌∙◌, ap, subst, arith, inl, inr}
use Rattle.std.specs.List.{list_all}
use Rattle.std.proofs.lemmas.Bool.{cases_eq}
use Rattle.std.proofs.lemmas.List.{get_or-set_same, get_or-set_other}
use Rattle.scan_story.specs.declared.setting.Need as asked
use Rattle.scan_story.specs.declared.setting.Setting.{Setting}
use Rattle.scan_story.specs.Counting.{has, is_number}
use Rattle.scan_story.specs.Setting.{IsSetting, IsNeed, need_of, chunks_in, columns_in, groups_read, piece_at, asks_for}
use Rattle.scan_story.specs.Views.{piece_in, is_framed, is_wholly_framed, needs_chunk, is_available}
use Rattle.chunk_interest.specs.declared.need.Need.{Need}
use Rattle.chunk_interest.specs.declared.client.Client.{Client}
use Rattle.chunk_interest.specs.declared.frame.Frame.{Frame}
use Rattle.chunk_interest.specs.declared.frame.Frame.TheVariants.{Free}
use Rattle.chunk_interest.specs.Clients.{IsWait, IsClient, IsReady, client_at, vacant}
use Rattle.chunk_interest.specs.Frames.{frame_at, place_at, IsPlace}
use Rattle.chunk_interest.specs.Buffers.{AreFrames}
use Rattle.chunk_interest.specs.Fresh.{as_need, wanted, IsFresh, AreFresh}
use Rattle.chunk_interest.proofs.Below.{equal_number, other_number, true_false, none_from}
use Rattle.chunk_interest.proofs.Needs.{is_need}

-- Clients

-- one need more
pub fresh_set : (groups : ℕ) (n : Need) (rest : List Need) (ks : List Client) (k : Client) (m : ℕ) → n.query < length ks → IsFresh groups (Some (as_need n)) k → AreFresh groups rest ks m
    → AreFresh groups (n ∷ rest) (set ks n.query k) m
fresh_set groups n rest ks k m there is are = λ q lt. elim (cases_eq q n.query) [
  | inl at ↦
      subst (λ (x : ℕ). IsFresh groups (wanted (n ∷ rest) x) (client_at (set ks n.query k) x)) (sym at)
      (subst (λ (o : Option asked.Need). IsFresh groups o (client_at (set ks n.query k) n.query)) (sym (ap (λ (b : Bool). if b then Some (as_need n) else wanted rest n.query) (equal_number n.query n.query refl)))
      (subst (IsFresh groups (Some (as_need n))) (sym (get_or-set_same ks n.query k vacant there)) is))
  | inr ne ↦
      subst (λ (o : Option asked.Need). IsFresh groups o (client_at (set ks n.query k) q)) (sym (ap (λ (b : Bool). if b then Some (as_need n) else wanted rest q) (other_number n.query q (λ e. ne (sym e)))))
      (subst (IsFresh groups (wanted rest q)) (sym (get_or-set_other ks n.query q k vacant ne)) (are q lt))
]

and_trues : (a : Bool) → (a && true && true && true) ≡ a
and_trues true = refl
and_trues false = refl

-- a fresh client stands for its query before the first entry
pub fresh_client : (s : Setting) (q : ℕ) (k : Client) → IsFresh s.groups (need_of s q) k → IsClient s [] q k
fresh_client s q k is = record {
  worker = is.worker;
  columns = is.columns;
  reads = is.reads;
  phase = is.phase;
  remaining = λ c. ap (λ (xs : List ℕ). has xs c) is.remaining ∙ sym (and_trues (asks_for s q c));
  began = subst (IsWait [] q) (sym is.began) (record { past = tt; since = refl });
}

unframed : (s : Setting) (p : ℕ) → is_framed s [] p ≡ false
unframed s p = none_from (λ f. is_number p (piece_in s [] f)) s.frames (λ f lt. refl)

none_whole : (s : Setting) (c : ℕ) (gs : List ℕ) → 0 < length gs → list_all (is_framed s []) (map (piece_at s c) gs) ≡ false
none_whole s c [] some = absurd (omega (arith, some))
none_whole s c (g ∷ gs) some = ap (λ (b : Bool). b && list_all (is_framed s []) (map (piece_at s c) gs)) (unframed s (piece_at s c g))

-- a need reads some group
pub some_groups : (s : Setting) (n : asked.Need) (o : Option asked.Need) → o ≡ Some n → IsNeed s n → 0 < length (if s.groups == 1 then 0 ∷ [] else columns_in o)
some_groups s n o e is = elim (s.groups == 1) as (λ b. (s.groups == 1) ≡ b → 0 < length (if b then 0 ∷ [] else columns_in o)) [
  | true ↦ λ t. omega arith
  | false ↦ λ t. elim is.columns [
    | inl one ↦ absurd (true_false (s.groups == 1) (equal_number s.groups 1 one) t)
    | inr all ↦ subst (λ (x : Option asked.Need). 0 < length (columns_in x)) (sym e) all.0
  ]
] refl

-- nothing is available before the first entry
pub fresh_ready : (s : Setting) (q : ℕ) (k : Client) → IsSetting s → k.available ≡ [] → IsReady s [] q k
fresh_ready s q k ok none = λ c. ap (λ (xs : List ℕ). has xs c) none ∙ sym (nothing c (need_of s q) refl)
  where
    second : (a b : Bool) → b ≡ false → (a && b) ≡ false
    second true b e = e
    second false b e = refl

    first : (a b : Bool) → a ≡ false → (a && b) ≡ false
    first true b e = absurd (true_false true refl e)
    first false b e = refl

    nothing : (c : ℕ) (o : Option asked.Need) → need_of s q ≡ o → is_available s [] q c ≡ false
    nothing c None e = first (needs_chunk s [] q c) (is_wholly_framed s [] q c) (and_trues (asks_for s q c) ∙ ap (λ (x : Option asked.Need). has (chunks_in x) c) e)
    nothing c (Some n) e = second (needs_chunk s [] q c) (is_wholly_framed s [] q c) (none_whole s c (groups_read s q) (some_groups s n (need_of s q) e (is_need s q n ok e).0))

-- Frames

pub fresh_frames : (s : Setting) (n : ℕ) (fs : List Frame) (ps bs : List (Option ℕ)) → n ≡ s.groups → length fs ≡ s.frames → ((f : ℕ) → frame_at fs f ≡ Free) → ((p : ℕ) → place_at ps p ≡ None) → AreFrames s [] n fs ps bs
fresh_frames s n fs ps bs groups size free none = record {
  groups = groups;
  frames = size;
  each = λ f lt. free f;
  places = λ p lt. subst (IsPlace s [] p) (sym (none p)) (unframed s p);
  begun = tt;
}
