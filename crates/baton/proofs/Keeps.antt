-- Each step keeps the rule.
use Rattle.std.proofs.Common.{◌≡◌, ◌≢◌, ◌⊎◌, ℕ, zero, suc, ◌+◌, ◌<◌, true, false, true≢false, List, [], ◌∷◌, ◌++◌, length, set, refl, sym, ap, ◌∙◌, subst, inl, inr, ⊎_elim, arith, length-append}
use Rattle.std.proofs.Math.ListN.{length-set}
use mathlib.Core.Option.{some, some-ne-none, some-injective}
use Rattle.std.proofs.lemmas.Bool.{cases_eq}
use lib.ListN.{get_elem?}
use Rattle.crossbeam_queue.specs.Fifo.{Pushes, Pops, Forks, Merges, Learns}
use Rattle.crossbeam_queue.proofs.Lists.{at_set, set_here, set_else, at_longer}
use Rattle.scan_story.specs.declared.entry.Entry.{Entry}
use Rattle.scan_story.specs.declared.origin.Start.{Start}
use Rattle.scan_story.specs.Setting.{nowhere}
use Rattle.scan_story.specs.Makers.{entries_by, StartsWith, AllBy, Adds}
use Rattle.scan_story.proofs.Growing.{starts_self, starts_more, entries_kept}
use Rattle.baton.specs.declared.view.Role.TheVariants.{Dealer, Worker}
use Rattle.baton.specs.declared.view.Share.{Share}
use Rattle.baton.specs.declared.view.View.{View}
use Rattle.baton.specs.Shares.{Agrees, up_to_date}
use Rattle.baton.specs.Rule.{worker, dealer, unmade, AgreesWithTold, Fits, IsOut, LiesThere, OneStory}
use Rattle.baton.specs.Steps.{sees, Laid, Took, Gave, dealer_after, dealt_by, told_of, gone}

-- Shares

agrees_self : (n : ℕ) (o : Start) (es : List Entry) → Agrees o es (up_to_date n o es)
agrees_self n o es = record { origin = refl; seen = starts_self es; mine = refl }

agrees_same : (o p : Start) (es fs : List Entry) (k : Share) → p ≡ o → fs ≡ es → Agrees o es k → Agrees p fs k
agrees_same o p es fs k origin story a = record {
  origin = origin ∙ a.origin;
  seen = subst (λ (l : List Entry). StartsWith l k.seen) (sym story) a.seen;
  mine = ap (entries_by k.number) story ∙ a.mine;
}

-- entries of another worker
agrees_more : (w : ℕ) (o : Start) (es new : List Entry) (k : Share) → AllBy w new → k.number ≢ w → Agrees o es k → Agrees o (es ++ new) k
agrees_more w o es new k by other a = record { origin = a.origin; seen = starts_more es k.seen new a.seen; mine = entries_kept w k.number es new by other ∙ a.mine }

-- Passes

-- a fact of each pass
abbrev Each : (ℕ → View → Type 0) → List View → Type 0
Each F views = (p : ℕ) (v : View) → get_elem? views p ≡ some v → F p v

each_set : (F : ℕ → View → Type 0) (views : List View) (port : ℕ) (w : View) → F port w → ((j : ℕ) (u : View) → j ≢ port → get_elem? views j ≡ some u → F j u) → Each F (set views port w)
each_set F views port w mine others j u e =
    ⊎_elim
    (λ (x : (j ≡ port) × (w ≡ u)). subst (λ (y : ℕ × View). F y.0 y.1) (λ i. (sym x.0 i, x.1 i)) mine)
    (λ (x : (j ≢ port) × (get_elem? views j ≡ some u)). others j u x.0 x.1)
    (at_set views port j w u e)

is_there : (views : List View) (p : ℕ) (v : View) → get_elem? views p ≡ some v → p < length views
is_there [] p v e = absurd (some-ne-none v (sym e))
is_there (x ∷ xs) zero v e = omega arith
is_there (x ∷ xs) (suc p) v e = let r = is_there xs p v e in omega arith

at_end : (l : List View) (a b : View) (j : ℕ) → get_elem? (l ++ a ∷ []) j ≡ some b → (get_elem? l j ≡ some b) ⊎ ((j ≡ length l) × (a ≡ b))
at_end [] a b zero e = inr (refl, some-injective a b e)
at_end [] a b (suc j) e = absurd (some-ne-none b (sym e))
at_end (x ∷ xs) a b zero e = inl e
at_end (x ∷ xs) a b (suc j) e = ⊎_elim (λ (t : get_elem? xs j ≡ some b). inl t) (λ (t : (j ≡ length xs) × (a ≡ b)). inr (ap suc t.0, t.1)) (at_end xs a b j e)

each_snoc : (F : ℕ → View → Type 0) (views : List View) (w : View) → F (length views) w → Each F views → Each F (views ++ w ∷ [])
each_snoc F views w new old j u e =
    ⊎_elim
    (λ (t : get_elem? views j ≡ some u). old j u t)
    (λ (t : (j ≡ length views) × (w ≡ u)). subst (λ (y : ℕ × View). F y.0 y.1) (λ i. (sym t.0 i, t.1 i)) new)
    (at_end views w u j e)

-- one pass alone, before any state is there
only : (v : View) (p : ℕ) → get_elem? (unmade ∷ []) p ≡ some v → (p ≡ 0) × (unmade ≡ v)
only v zero e = (refl, some-injective _ _ e)
only v (suc p) e = absurd (some-ne-none v (sym e))

-- Steps

module _ {T : Type 0} (origin_of : T → Start) (story_of : T → List Entry) where
  pub begins : OneStory origin_of story_of [] (unmade ∷ [])
  begins = record {
    origin = nowhere;
    story = [];
    state = inr (record { empty = refl; port = 0; holder = unmade; there = refl; holds = refl; seen = refl; others = λ p v e apart. absurd (apart (only v p e).0) });
    passes = λ p v e. subst (λ (y : ℕ × View). Fits nowhere [] 1 y.0 y.1) (λ i. (sym (only v p e).0 i, (only v p e).1 i))
        ((λ r. absurd (cc r)), λ _. record { first = refl; dealt = refl; agrees = λ n le. agrees_self n nowhere [] });
  }

  -- where a pass is holding, the queue is empty, the pass has seen the story, and no other is holding
  is_out : (port : ℕ) (v : View) → v.holding ≡ true → (items : List T) (views : List View) (h : OneStory origin_of story_of items views) → get_elem? views port ≡ some v
      → (items ≡ []) × (v.share.seen ≡ h.story) × ((j : ℕ) (u : View) → j ≢ port → get_elem? views j ≡ some u → u.holding ≡ false)
  is_out port v holds items views h at =
      ⊎_elim
      (λ (lies : LiesThere origin_of story_of h.origin h.story items views). absurd (true≢false (sym holds ∙ lies.nobody port v at)))
      (λ (out : IsOut h.story items views).
      let here : port ≡ out.port = ⊎_elim (λ (e : port ≡ out.port). e) (λ (n : port ≢ out.port). absurd (true≢false (sym holds ∙ out.others port v at n))) (cases_eq port out.port) in
      let same : out.holder ≡ v = some-injective _ _ (sym out.there ∙ (ap (get_elem? views) (sym here) ∙ at)) in
      (out.empty, ap (λ (u : View). u.share.seen) (sym same) ∙ out.seen, λ j u apart e. out.others j u e (λ s. apart (s ∙ sym here))))
      h.state

  pub empty_out : (port : ℕ) (v : View) → v.holding ≡ true → Learns (OneStory origin_of story_of) port v (λ items. items ≡ [])
  empty_out port v holds items views h at = (is_out port v holds items views h at).0

  pub takes : (port : ℕ) (v : View) → v.role ≡ Worker → Pops (OneStory origin_of story_of) port v (Took origin_of story_of v)
  takes port v works x items views h at =
      let w = worker (sees (story_of x) v.share) true in
      let vs : List View = set views port w in
      let mine = (h.passes port v at).0 works in
      let count : length vs ≡ length views = length-set views port w in
      ⊎_elim
      (λ (lies : LiesThere origin_of story_of h.origin h.story (x ∷ items) views).
      let same : x ≡ lies.state = cc (lies.alone) in
      let none : items ≡ [] = cc (lies.alone) in
      let origin : origin_of x ≡ h.origin = ap origin_of same ∙ lies.origin in
      let story : story_of x ≡ h.story = ap story_of same ∙ lies.told in
      let seen : StartsWith h.story (story_of x) = subst (λ (l : List Entry). StartsWith h.story l) (sym story) (starts_self h.story) in (
        w,
        record {
          origin = h.origin;
          story = h.story;
          state = inr (record {
            empty = none;
            port = port;
            holder = w;
            there = set_here views port w (is_there views port v at);
            holds = refl;
            seen = story;
            others = each_set (λ p u. p ≢ port → u.holding ≡ false) views port w (λ apart. absurd (apart refl)) (λ j u apart e _. lies.nobody j u e);
          });
          passes = each_set (Fits h.origin h.story (length vs)) views port w
              ((λ _. record { number = mine.number; agrees = record { origin = mine.agrees.origin; seen = seen; mine = mine.agrees.mine }; told = λ k t. absurd (cc t) }), λ d. absurd (cc d))
              (λ j u apart e. subst (λ (n : ℕ). Fits h.origin h.story n j u) (sym count) (h.passes j u e));
        },
        (agrees_same h.origin (origin_of x) h.story (story_of x) v.share origin story mine.agrees, refl),
      ))
      (λ (out : IsOut h.story (x ∷ items) views). absurd (cc (out.empty)))
      h.state

  pub lays : (n port : ℕ) (v : View) (x : T) → v ≡ unmade → Pushes (OneStory origin_of story_of) n port v x (Laid origin_of story_of v x)
  lays n port v x is = subst (λ (u : View). Pushes (OneStory origin_of story_of) n port u x (Laid origin_of story_of u x)) (sym is) (λ items views room h at.
      let o = origin_of x in
      let es = story_of x in
      let w = dealer 0 o es false in
      let vs : List View = set views port w in
      let mine = (h.passes port unmade at).1 refl in
      let count : length vs ≡ length views = length-set views port w in
      let alone : (j : ℕ) (u : View) → j ≢ port → get_elem? views j ≡ some u → ⊥ = λ j u apart e. (let a = is_there views j u e in let b = is_there views port unmade at in let c : 1 ≡ length views = mine.dealt in apart (omega arith)) in
      let none : items ≡ [] = empty_out port unmade refl items views h at in (
        w,
        record {
          origin = o;
          story = es;
          state = inl (record { state = x; alone = ap (λ (l : List T). l ++ x ∷ []) none; origin = refl; told = refl; nobody = each_set (λ p u. u.holding ≡ false) views port w refl (λ j u apart e. absurd (alone j u apart e)) });
          passes = each_set (Fits o es (length vs)) views port w
              ((λ r. absurd (cc r)), λ _. record { first = mine.first; dealt = mine.dealt ∙ sym count; agrees = λ n le. agrees_self n o es })
              (λ j u apart e. absurd (alone j u apart e));
        },
        refl,
      ))

  pub gives : (n port : ℕ) (v : View) (x : T) → v.role ≡ Worker → v.holding ≡ true → origin_of x ≡ v.share.origin → Adds v.share.number v.share.seen (story_of x)
      → Pushes (OneStory origin_of story_of) n port v x (Gave story_of v x)
  gives m port v x works holds origin adds items views room h at =
      let w = worker (up_to_date v.share.number v.share.origin (story_of x)) false in
      let vs : List View = set views port w in
      let mine = (h.passes port v at).0 works in
      let count : length vs ≡ length views = length-set views port w in
      let out = is_out port v holds items views h at in
      let grown : story_of x ≡ h.story ++ adds.0 = adds.1 ∙ ap (λ (l : List Entry). l ++ adds.0) out.1 in
      let still : (k : Share) → k.number ≢ v.share.number → Agrees h.origin h.story k → Agrees h.origin (story_of x) k = λ k other a.
      agrees_same h.origin h.origin (h.story ++ adds.0) (story_of x) k refl grown (agrees_more v.share.number h.origin h.story adds.0 k adds.2 other a) in (
        w,
        record {
          origin = h.origin;
          story = story_of x;
          state = inl (record { state = x; alone = ap (λ (l : List T). l ++ x ∷ []) out.0; origin = origin ∙ sym mine.agrees.origin; told = refl; nobody = each_set (λ p u. u.holding ≡ false) views port w refl out.2 });
          passes = each_set (Fits h.origin (story_of x) (length vs)) views port w
              ((λ _. record { number = mine.number; agrees = record { origin = mine.agrees.origin; seen = starts_self (story_of x); mine = refl }; told = λ k t. absurd (cc t) }), λ d. absurd (cc d))
              (λ j u apart e. (
                (λ r.
                    let old = (h.passes j u e).0 r in
                    record { number = old.number; agrees = still u.share (λ s. apart (sym old.number ∙ ap (λ n. n + 1) s ∙ mine.number)) old.agrees; told = old.told }),
                λ r.
                    let old = (h.passes j u e).1 r in
                    record { first = old.first; dealt = old.dealt ∙ sym count; agrees = λ n le. still (up_to_date n u.share.origin u.share.seen) (let a = mine.number in let b = old.dealt in let c = is_there views port v at in λ s. omega arith) (old.agrees n le) },
              ));
        },
        refl,
      )

  -- the holder stays, where this pass keeps what it holds and a new one comes
  with_new : (port : ℕ) (v l r : View) (views : List View) (items : List T) (story : List Entry) → get_elem? views port ≡ some v → IsOut story items views
      → l.holding ≡ v.holding → l.share.seen ≡ v.share.seen → r.holding ≡ false → IsOut story items (set views port l ++ r ∷ [])
  with_new port v l r views items story at out holds sees idle =
      let vs : List View = set views port l in
      let Idle : ℕ → View → Type 0 = λ p u. p ≢ out.port → u.holding ≡ false in
      let rest : Each Idle (vs ++ r ∷ []) = each_snoc Idle vs r (λ _. idle) (each_set Idle views port l (λ n. holds ∙ out.others port v at n) (λ j u apart e n. out.others j u e n)) in
      ⊎_elim
      (λ (e : out.port ≡ port).
      let same : out.holder ≡ v = some-injective _ _ (sym out.there ∙ (ap (get_elem? views) e ∙ at)) in
      let here : get_elem? vs out.port ≡ some l = ap (get_elem? vs) e ∙ set_here views port l (is_there views port v at) in
      record {
        empty = out.empty;
        port = out.port;
        holder = l;
        there = at_longer vs (r ∷ []) out.port l here;
        holds = holds ∙ ap (λ (u : View). u.holding) (sym same) ∙ out.holds;
        seen = sees ∙ ap (λ (u : View). u.share.seen) (sym same) ∙ out.seen;
        others = rest;
      })
      (λ (n : out.port ≢ port).
      record { empty = out.empty; port = out.port; holder = out.holder; there = at_longer vs (r ∷ []) out.port out.holder (set_else views port out.port l n ∙ out.there); holds = out.holds; seen = out.seen; others = rest })
      (cases_eq out.port port)

  pub deals : (port : ℕ) (v : View) → v.role ≡ Dealer → Forks (OneStory origin_of story_of) port v (dealer_after v) (dealt_by v)
  deals port v does items views h at =
      let l = dealer_after v in
      let r = dealt_by v in
      let vs : List View = set views port l in
      let all : List View = vs ++ r ∷ [] in
      let mine = (h.passes port v at).1 does in
      let same_length : length vs ≡ length views = length-set views port l in
      let count : length all ≡ length views + 1 = omega (arith, length-append vs (r ∷ []), same_length) in
      let counts : v.share.number + 1 + 1 ≡ length all = let a = mine.dealt in omega arith in
      let F : ℕ → View → Type 0 = Fits h.origin h.story (length all) in
      let old : Each F vs = each_set F views port l
      ((λ s. absurd (cc s)), λ _. record { first = mine.first; dealt = counts; agrees = λ n le. mine.agrees n (omega arith) })
      (λ j u apart e. ((h.passes j u e).0, λ s. absurd (apart (((h.passes j u e).1 s).first ∙ sym mine.first)))) in
      record {
        origin = h.origin;
        story = h.story;
        state = ⊎_elim
            (λ (lies : LiesThere origin_of story_of h.origin h.story items views).
            inl (record {
              state = lies.state;
              alone = lies.alone;
              origin = lies.origin;
              told = lies.told;
              nobody = each_snoc (λ p u. u.holding ≡ false) vs r refl (each_set (λ p u. u.holding ≡ false) views port l (lies.nobody port v at) (λ j u apart e. lies.nobody j u e));
            }))
            (λ (out : IsOut h.story items views). inr (with_new port v l r views items h.story at out refl refl refl))
            h.state;
        passes = each_snoc F vs r ((λ _. record { number = mine.dealt ∙ sym same_length; agrees = mine.agrees v.share.number (omega arith); told = λ k t. absurd (cc t) }), λ s. absurd (cc s)) old;
      }

  pub absorbs : (port : ℕ) (v : View) (other : ℕ) (u : View) → v.role ≡ Worker → v.holding ≡ true → u.role ≡ Worker → Merges (OneStory origin_of story_of) port v other u (told_of v u) gone
  absorbs port v other u works holds other_works items views h at apart there =
      let w = told_of v u in
      let vs : List View = set views port w in
      let all : List View = set vs other gone in
      let mine = (h.passes port v at).0 works in
      let count : length all ≡ length views = length-set vs other gone ∙ length-set views port w in
      let out = is_out port v holds items views h at in
      let was : get_elem? views other ≡ some u = ⊎_elim (λ (x : (other ≡ port) × (w ≡ u)). absurd (apart x.0)) (λ (x : (other ≢ port) × (get_elem? views other ≡ some u)). x.1) (at_set views port other w u there) in
      let theirs = (h.passes other u was).0 other_works in
      let told : Agrees v.share.origin v.share.seen u.share = agrees_same h.origin v.share.origin h.story v.share.seen u.share (sym mine.agrees.origin) out.1 theirs.agrees in
      let Idle : ℕ → View → Type 0 = λ p x. p ≢ port → x.holding ≡ false in
      let F : ℕ → View → Type 0 = Fits h.origin h.story (length all) in
      record {
        origin = h.origin;
        story = h.story;
        state = inr (record {
          empty = out.0;
          port = port;
          holder = w;
          there = set_else vs other port gone (λ e. apart (sym e)) ∙ set_here views port w (is_there views port v at);
          holds = holds;
          seen = out.1;
          others = each_set Idle vs other gone (λ _. refl) (λ j x _ e. each_set Idle views port w (λ n. absurd (n refl)) (λ i y n e' _. out.2 i y n e') j x e);
        });
        passes = each_set F vs other gone ((λ s. absurd (cc s)), λ s. absurd (cc s))
            (λ j x _ e. each_set F views port w
            ((λ _. record { number = mine.number; agrees = mine.agrees; told = λ k t. (let same : u.share ≡ k = cc (t) in (holds, subst (Agrees v.share.origin v.share.seen) same told)) }), λ s. absurd (cc s))
            (λ i y n e'. subst (λ (k : ℕ). Fits h.origin h.story k i y) (sym count) (h.passes i y e')) j x e);
      }

  pub learns : (port : ℕ) (v : View) → v.role ≡ Worker → Learns (OneStory origin_of story_of) port v (λ items. AgreesWithTold v)
  learns port v works items views h at k t = (((h.passes port v at).0 works).told k t).1
