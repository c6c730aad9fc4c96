-- What the picks of a policy say.
use Rattle.std.specs.Prelude.{◌≡◌, ℕ, true, false, List, [], Option, None, Some}
use Rattle.scan_story.specs.declared.view.Load.{Load}
use Rattle.scan_story.specs.declared.setting.PolicyName.{PolicyName}
use Rattle.scan_story.specs.declared.setting.Setting.{Setting}
use Rattle.scan_story.specs.Views.{History, is_active}
use Rattle.scan_story.specs.Loads.{underway}
use Rattle.scan_story.specs.MayFollow.{is_target, is_ready, is_trigger, is_victim}
use Rattle.scan_story.specs.Policies.{BestQuery, BestLoad, BestDelivery, BestVictim, after_load, after_delivery}
use Rattle.interest_book.specs.declared.book.Book.{Book}
use Rattle.interest_book.specs.Stands.{Stands}

-- a choice of the policy, or none where there is no candidate

abbrev pub PicksQuery : PolicyName → List ℕ → Setting → History → Option ℕ → Type 0
PicksQuery name cursor s h None = (q : ℕ) → is_trigger s h q ≡ false
PicksQuery name cursor s h (Some q) = BestQuery name cursor s h q

abbrev pub PicksLoad : PolicyName → List ℕ → Setting → History → ℕ → Option ℕ → Type 0
PicksLoad name cursor s h q None = (c : ℕ) → is_target s h q c ≡ false
PicksLoad name cursor s h q (Some c) = BestLoad name cursor s h q c

abbrev pub PicksDelivery : PolicyName → List ℕ → Setting → History → ℕ → Option ℕ → Type 0
PicksDelivery name cursor s h q None = (c : ℕ) → is_ready s h q c ≡ false
PicksDelivery name cursor s h q (Some c) = BestDelivery name cursor s h q c

abbrev pub PicksVictim : PolicyName → List ℕ → Setting → History → Option ℕ → Type 0
PicksVictim name cursor s h None = (c : ℕ) → is_victim s h c ≡ false
PicksVictim name cursor s h (Some c) = BestVictim name cursor s h c

-- the cursor after a pick: as it was where nothing was picked

abbrev pub cursor_after_load : PolicyName → Setting → List ℕ → ℕ → Option ℕ → List ℕ
cursor_after_load name s cursor q None = cursor
cursor_after_load name s cursor q (Some c) = after_load name s cursor q c

abbrev pub cursor_after_delivery : PolicyName → List ℕ → ℕ → Option ℕ → List ℕ
cursor_after_delivery name cursor q None = cursor
cursor_after_delivery name cursor q (Some c) = after_delivery name cursor q c

-- the query is active in a history that the book stands for
pub record HasActive (b : Book) (q : ℕ) : Type 0 where
  pub setting : Setting
  pub history : History
  pub stands : Stands b setting history
  pub active : is_active history q ≡ true

-- no load underway has begun a fill, in a history that the book stands for
pub record HasNoneBegun (b : Book) : Type 0 where
  pub setting : Setting
  pub history : History
  pub stands : Stands b setting history
  pub none_begun : (l : Load) → underway setting history ≡ Some l → l.begun ≡ []
