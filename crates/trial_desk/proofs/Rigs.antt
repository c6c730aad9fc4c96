-- What a desk on trial keeps, after one more entry.
use Rattle.std.proofs.Common.{◌≡◌, ◌∷◌, [], ◌++◌, List, length, replicate, Option, None, refl, sym, subst}
use Rattle.std.proofs.lemmas.List.{get_or-replicate, length-replicate}
use Rattle.scan_story.specs.declared.entry.Entry.{Entry}
use Rattle.scan_story.specs.declared.entry.Entry.TheVariants.{Register, Plan, Evict, Fill, Filled, Failed, Deliver, Release, Stop, End}
use Rattle.scan_story.specs.declared.origin.Start.{Start}
use Rattle.scan_story.specs.declared.setting.Setting.{Setting}
use Rattle.scan_story.specs.Views.{History, past}
use Rattle.scan_story.specs.Loads.{underway}
use Rattle.scan_story.specs.Spent.{reads}
use Rattle.scan_story.specs.Causes.{last_fault}
use Rattle.scan_story.proofs.Prefixes.{past_next}
use Rattle.trial_desk.specs.declared.seat.Seat.{Seat}
use Rattle.trial_desk.specs.declared.out.Out.{Out}
use Rattle.trial_desk.specs.Rigged.{empty_seat, IsSeat, AreSeats, MayBeOut, IsRigged}

-- entries that touch no load
abbrev pub IsCalm : Entry → Type 0
IsCalm (Register w q) = Unit {0}
IsCalm (Deliver w q c) = Unit {0}
IsCalm (Release w q c) = Unit {0}
IsCalm (Stop w q) = Unit {0}
IsCalm (End w q) = Unit {0}
IsCalm _ = ⊥

abbrev OutAt : Start → History → Option Out → Type 0
OutAt o h out = MayBeOut o (underway o.setting h) (reads h) (last_fault o.faults h) out

out_still : (o : Start) (h : History) (e : Entry) (out : Option Out) → IsCalm e → OutAt o h out → OutAt o (e ∷ h) out
out_still o h (Register w q) out calm k = k
out_still o h (Deliver w q c) out calm k = k
out_still o h (Release w q c) out calm k = k
out_still o h (Stop w q) out calm k = k
out_still o h (End w q) out calm k = k
out_still o h (Plan w q c) out calm k = absurd calm
out_still o h (Evict w c) out calm k = absurd calm
out_still o h (Fill w f p) out calm k = absurd calm
out_still o h (Filled w f p) out calm k = absurd calm
out_still o h (Failed w q p why) out calm k = absurd calm

pub rigged_next : (o : Start) (es new : List Entry) (e : Entry) (seats after : List Seat) (out : Option Out) → new ≡ es ++ e ∷ [] → IsCalm e → IsRigged o es seats out → length after ≡ 32 → AreSeats o.setting (e ∷ past es) after
    → IsRigged o new after out
rigged_next o es new e seats after out at calm k count are = subst (λ (xs : List Entry). IsRigged o xs after out) (sym at) (record {
  told = k.told;
  count = count;
  remembered = subst (λ (h : History). AreSeats o.setting h after) (sym (past_next es e)) are;
  loading = subst (λ (h : History). OutAt o h out) (sym (past_next es e)) (out_still o (past es) e out calm k.loading);
})

fresh_seats : (s : Setting) → AreSeats s [] (replicate 32 empty_seat)
fresh_seats s = λ w lt. subst (IsSeat s [] w) (sym (get_or-replicate 32 w empty_seat empty_seat lt)) (record { holds = refl; on = tt })

pub rigged_new : (o : Start) (es : List Entry) (seats : List Seat) → o.held ≡ None → es ≡ [] → seats ≡ replicate 32 empty_seat → IsRigged o es seats None
rigged_new o es seats told none fresh = subst (λ (xs : List Entry). IsRigged o xs seats None) (sym none) (subst (λ (ss : List Seat). IsRigged o [] ss None) (sym fresh) (record {
  told = told;
  count = length-replicate 32 empty_seat;
  remembered = fresh_seats o.setting;
  loading = refl;
}))
