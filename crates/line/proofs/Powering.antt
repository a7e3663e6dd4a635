-- Power-up: the invariant, and a record that says what the empty history says.
use Prim.Native.Nat.{ℕ, zero, suc, ◌≤◌, ◌<◌}
use Rattle.std.specs.Prelude.{Ok, Err, None}
use mathlib.Core.Bool.{Bool, true, false, cond, ◌||◌, true≢false, false≢true}
use mathlib.Core.List.{List, [], ◌∷◌, map}
use mathlib.Core.Logic.{inl}
use mathlib.Core.Path.{◌≡◌, refl, sym, ap, ◌∙◌}
use native.Mathlib.Omega.{arith}
use lib.Dec.{ltb}
use lib.ListN.{length, get_or}
use borrow.Author.Tests.{ltb-false}
use Rattle.wire.proofs.Choice.{neither}
use Rattle.wire.specs.declared.refusal.Refusal.TheVariants.{Range}
use Rattle.wire.specs.declared.kind.Kind.{Kind}
use Rattle.wire.specs.declared.kind.Kind.TheVariants.{Gate}
use Rattle.node.specs.Effect.{settings_power_up}
use Rattle.entry.specs.declared.Entry.{Entry}
use Rattle.entry.specs.Entry.{entry_power_up}
use Rattle.entry.proofs.Entries.{knows_up}
use Rattle.ledger.specs.Ledger.{blank_entry, ledger_power_up}
use Rattle.ledger.proofs.Ledgers.{length_up, up_at}
use Rattle.session.specs.declared.Exchange.TheVariants.{Idle}
use Rattle.session.specs.declared.Session.{Session}
use Rattle.session.specs.declared.Step.{Step}
use Rattle.start.specs.Start.{start_power_up}
use Rattle.line.specs.World.{Device, powered_up, Told}
use Rattle.line.proofs.Exactly.{Exactly}
use Rattle.line.proofs.Invariant.{at, Invariant}

-- the session of a power-up with n nodes of these kinds
abbrev pub fresh_at : ℕ → List Kind → Session
fresh_at n ks = record { started = true; n = n; walk = 0; exchange = Idle; entries = ledger_power_up n ks }

abbrev powering : Bool → Session → ℕ → List Kind → Step
powering bad s n ks = cond bad (record { end = Err Range; session = s }) (record { end = Ok None; session = fresh_at n ks })

pub record Powered (s : Session) (n : ℕ) (ks : List Kind) : Type 0 where
  pub some : 1 ≤ n
  pub few : n ≤ 31
  pub session : (start_power_up s n ks).session ≡ fresh_at n ks

-- a power-up that is accepted
pub accepted_power : (s : Session) (n : ℕ) (ks : List Kind) → (start_power_up s n ks).end ≡ Ok None → Powered s n ks
unfolding start_power_up
accepted_power s n ks e = go (ltb n 1 || ltb 31 n) refl e
  where
    go : (b : Bool) → (ltb n 1 || ltb 31 n) ≡ b → (powering b s n ks).end ≡ Ok None → Powered s n ks
    go true f e = absurd (true≢false (cc e))
    go false f e =
        let p = neither (ltb n 1) (ltb 31 n) f in
        record { some = ltb-false n 1 p.0; few = ltb-false 31 n p.1; session = rw f refl }

-- all nodes in power-up state
length_powered : (ds : List Device) → length (map powered_up ds) ≡ length ds
length_powered [] = refl
length_powered (d ∷ ds) = ap suc (length_powered ds)

settings_powered : (ds : List Device) (i : ℕ) → i < length ds → (at (map powered_up ds) i).settings ≡ settings_power_up
settings_powered [] i l = absurd (omega arith)
settings_powered (d ∷ ds) zero l = refl
settings_powered (d ∷ ds) (suc i) l = settings_powered ds i (omega arith)

addressed_powered : (ds : List Device) (i : ℕ) → i < length ds → (at (map powered_up ds) i).addressed ≡ false
addressed_powered [] i l = absurd (omega arith)
addressed_powered (d ∷ ds) zero l = refl
addressed_powered (d ∷ ds) (suc i) l = addressed_powered ds i (omega arith)

kind_powered : (ds : List Device) (i : ℕ) → i < length ds → (at (map powered_up ds) i).kind ≡ get_or (map (λ (d : Device). d.kind) ds) i Gate
kind_powered [] i l = absurd (omega arith)
kind_powered (d ∷ ds) zero l = refl
kind_powered (d ∷ ds) (suc i) l = kind_powered ds i (omega arith)

module _ (ds : List Device) (ks : List Kind) (told : Told ks ds) (some : 1 ≤ length ds) (few : length ds ≤ 31) where
  up : (i : ℕ) → i < length ds → get_or (ledger_power_up (length ds) ks) i blank_entry ≡ entry_power_up (get_or ks i Gate)
  up i l = up_at (length ds) ks i blank_entry few l

  pub powered_invariant : Invariant (fresh_at (length ds) ks) (map powered_up ds)
  powered_invariant = record {
    begun = refl;
    long = length_powered ds;
    some = some;
    few = few;
    full = length_up (length ds) ks;
    walked = omega arith;
    held = λ i l s k. rw (up i l, settings_powered ds i l) refl;
    front = λ i l. absurd (omega arith);
    back = λ i l m. rw (settings_powered ds i m, addressed_powered ds i m) (refl, refl);
    edge = λ l. inl (rw (settings_powered ds 0 l, addressed_powered ds 0 l) (refl, refl));
    alone = λ g i j l m p q. absurd (false≢true (rw (settings_powered ds i l) at p));
    fit = λ i l. rw (settings_powered ds i l) refl;
    kinds = λ i l. ap (λ (e : Entry). e.kind) (up i l) ∙ told i l ∙ sym (kind_powered ds i l);
  }

  pub powered_exactly : Exactly (fresh_at (length ds) ks) []
  powered_exactly i l = rw (up i l) (record { known = knows_up (get_or ks i Gate); place = refl })
