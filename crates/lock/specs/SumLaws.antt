-- Two kinds as one keep the laws, since each of them does; so a lock of any kind does
use Rattle.std.specs.Prelude.{◌≡◌, ℕ, false, [], Ok, Err, Result, refl}
use Rattle.std.proofs.Common.{ap, subst, arith}
use Rattle.lock.specs.declared.Refusal.{Refusal}
use Rattle.lock.specs.declared.Refusal.TheVariants.{NoSuchKind, CountUnfit, BufferTooShort}
use Rattle.lock.specs.Model.{LockModel}
use Rattle.lock.specs.Laws.{Laws}
use Rattle.lock.specs.Kinds.{Either, one, two, or_else, sum, any}
use Rattle.lock.specs.FifoLaws.{mutex-lawful, replicas-lawful}
use Rattle.lock.specs.RwLaws.{rw-lawful}

module _ {A B : Type 0} where
  -- a lock that one of two starts made
  by_start : (r : Result A Refusal) (s : Result B Refusal) (P : Either A B → Type 0) → ((x : A) → r ≡ Ok x → P (one x)) → ((x : B) → s ≡ Ok x → P (two x)) → (l : Either A B) → or_else r s ≡ Ok l → P l
  by_start (Ok a) s P f g l e = subst P (cc) (f a refl)
  by_start (Err NoSuchKind) (Ok b) P f g l e = subst P (cc) (g b refl)
  by_start (Err NoSuchKind) (Err x) P f g l e = let z : ◌≡◌ {A = ℕ} 0 1 = cc in absurd (omega arith)
  by_start (Err CountUnfit) s P f g l e = let z : ◌≡◌ {A = ℕ} 0 1 = cc in absurd (omega arith)
  by_start (Err BufferTooShort) s P f g l e = let z : ◌≡◌ {A = ℕ} 0 1 = cc in absurd (omega arith)

module _ {A B : Type 0} {K : LockModel A} {M : LockModel B} where
  pub sum-laws : Laws K → Laws M → Laws (sum K M)
  sum-laws a b = record {
    start_sound = λ kind k m. by_start (K.start kind k m) (M.start kind k m) (sum K M).sound (a.start_sound kind k m) (b.start_sound kind k m);
    start_unheld = λ kind k m u. by_start (K.start kind k m) (M.start kind k m) (λ l. (sum K M).holds l u ≡ false) (a.start_unheld kind k m u) (b.start_unheld kind k m u);
    start_list = λ kind k m. by_start (K.start kind k m) (M.start kind k m) (λ l. (sum K M).list l ≡ []) (a.start_list kind k m) (b.start_list kind k m);
    apart = elim [ one x ↦ a.apart x | two x ↦ b.apart x ];
    served = elim [ one x ↦ a.served x | two x ↦ b.served x ];
    some_turn = elim [ one x ↦ a.some_turn x | two x ↦ b.some_turn x ];
    numbered = elim [ one x ↦ a.numbered x | two x ↦ b.numbered x ];
    listed_once = elim [ one x ↦ a.listed_once x | two x ↦ b.listed_once x ];
    mode_fits = elim [ one x ↦ a.mode_fits x | two x ↦ b.mode_fits x ];
    exclusive = elim [ one x ↦ a.exclusive x | two x ↦ b.exclusive x ];
    request_sound = elim [ one x ↦ a.request_sound x | two x ↦ b.request_sound x ];
    request_holds = elim [ one x ↦ a.request_holds x | two x ↦ b.request_holds x ];
    request_queued = elim [ one x ↦ a.request_queued x | two x ↦ b.request_queued x ];
    request_togo = elim [ one x ↦ a.request_togo x | two x ↦ b.request_togo x ];
    request_mode = elim [ one x ↦ a.request_mode x | two x ↦ b.request_mode x ];
    request_modes = elim [ one x ↦ a.request_modes x | two x ↦ b.request_modes x ];
    request_turn = elim [ one x ↦ a.request_turn x | two x ↦ b.request_turn x ];
    newcomer = elim [ one x ↦ a.newcomer x | two x ↦ b.newcomer x ];
    grows = elim [ one x ↦ a.grows x | two x ↦ b.grows x ];
    complete_sound = elim [ one x ↦ a.complete_sound x | two x ↦ b.complete_sound x ];
    complete_holds = elim [ one x ↦ a.complete_holds x | two x ↦ b.complete_holds x ];
    complete_queued = elim [ one x ↦ a.complete_queued x | two x ↦ b.complete_queued x ];
    complete_modes = elim [ one x ↦ a.complete_modes x | two x ↦ b.complete_modes x ];
    granted_are = elim [ one x ↦ a.granted_are x | two x ↦ b.granted_are x ];
    none_granted = elim [ one x ↦ a.none_granted x | two x ↦ b.none_granted x ];
    turns_stay = elim [ one x ↦ a.turns_stay x | two x ↦ b.turns_stay x ];
    turn_ends = elim [ one x ↦ a.turn_ends x | two x ↦ b.turn_ends x ];
    busy = elim [ one x ↦ a.busy x | two x ↦ b.busy x ];
    unfit = elim [ one x ↦ a.unfit x | two x ↦ b.unfit x ];
    above = elim [ one x ↦ a.above x | two x ↦ b.above x ];
    taken = elim [ one x ↦ a.taken x | two x ↦ b.taken x ];
    request_declined = elim [ one x ↦ λ t m h. ap one (a.request_declined x t m h) | two x ↦ λ t m h. ap two (b.request_declined x t m h) ];
    complete_declined = elim [ one x ↦ λ t h. ap one (a.complete_declined x t h) | two x ↦ λ t h. ap two (b.complete_declined x t h) ];
    request_limit = elim [ one x ↦ a.request_limit x | two x ↦ b.request_limit x ];
    complete_limit = elim [ one x ↦ a.complete_limit x | two x ↦ b.complete_limit x ];
    request_fits = elim [ one x ↦ a.request_fits x | two x ↦ b.request_fits x ];
    complete_fits = elim [ one x ↦ a.complete_fits x | two x ↦ b.complete_fits x ];
    request_allows = elim [ one x ↦ a.request_allows x | two x ↦ b.request_allows x ];
    complete_allows = elim [ one x ↦ a.complete_allows x | two x ↦ b.complete_allows x ];
  }

pub any-lawful : Laws any
any-lawful = sum-laws mutex-lawful (sum-laws rw-lawful replicas-lawful)
