-- The place of tokens by the grammar, with all that is told of it.
use Rattle.std.proofs.Common.{◌≡◌, ℕ, Bool, List, length, map, take, sym, ap, ◌∙◌, subst}
use Rattle.std.specs.List.{Contains, filter}
use Rattle.sql_tokens.specs.declared.token.Token as tokens
use Rattle.sql_text.specs.Words.{meaning_in}
use Rattle.inspect_places.specs.declared.place.Place.{Place}
use Rattle.inspect_places.specs.declared.state.State.{State}
use Rattle.inspect_places.specs.declared.state.State.TheVariants as state
use Rattle.inspect_places.specs.Foreign.{foreign_at, takes_text}
use Rattle.inspect_places.specs.Near.{is_limit_at, is_number_at, is_table_at}
use Rattle.inspect_places.specs.Places.{span_at, told_most, IsGrammarPlace}
use Rattle.inspect_places.specs.Steps.{most, stands, stop_from, all_kinds}
use Rattle.inspect_places.proofs.KindLists.{passes, listed}
use Rattle.inspect_places.proofs.Bounds.{bound_of, most_within}
use Rattle.inspect_places.proofs.Stops.{at_stop, can_stand_at, goes_on, is_taken, place_is, stands_at}

pub whole_place : (l : Bool) (bytes : List ℕ) (all : List tokens.Token) (p : Place) (r : ℕ × State) → r ≡ stop_from l 0 state.Start (map (meaning_in bytes) all) → p.span ≡ span_at (length bytes) all r.0 → p.stands.items ≡ filter (stands l r.1) all_kinds → p.foreign ≡ foreign_at bytes (takes_text p.stands.items) all r.0 → p.is_table ≡ is_table_at bytes all r.0 → p.most ≡ told_most (is_limit_at bytes all r.0) (is_number_at all r.0) (most l r.1) → IsGrammarPlace l bytes all p
whole_place l bytes all p r e s k f t m =
    let ts = map (meaning_in bytes) all in let x = stop_from l 0 state.Start ts in
    let same : p.stands.items ≡ filter (stands l x.1) all_kinds = k ∙ ap (λ y. filter (stands l y.1) all_kinds) e in
    record {
      number = x.0;
      place = place_is l ts;
      span = s ∙ ap (λ y. span_at (length bytes) all y.0) e;
      bound = most l x.1;
      bound_is = (let at = at_stop l ts in
          bound_of l (take x.0 ts) x.1 (is_taken l (take x.0 ts) x.1 at) (goes_on l (take x.0 ts) x.1 at));
      most = m ∙ ap (λ y. told_most (is_limit_at bytes all y.0) (is_number_at all y.0) (most l y.1)) e;
      limit = most_within bytes all x.0;
      is_table = t ∙ ap (λ y. is_table_at bytes all y.0) e;
      foreign = f ∙ ap (λ y. foreign_at bytes (takes_text p.stands.items) all y.0) e;
      listed = λ q h. can_stand_at l ts q (passes (stands l x.1) all_kinds q (subst (λ qs. Contains qs q) same h));
      lists = λ q h. subst (λ qs. Contains qs q) (sym same) (listed (stands l x.1) q (stands_at l ts q h));
    }
