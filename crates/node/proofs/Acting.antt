-- The table of effects, part by part as the code has it: what each part becomes needs no other part.
use Prim.Native.Nat.{ℕ}
use mathlib.Core.Bool.{Bool, true, false, cond, true≢false}
use mathlib.Core.Path.{◌≡◌, refl, sym, ap, ◌∙◌}
use Rattle.wire.specs.declared.kind.Kind.{Kind}
use Rattle.wire.specs.declared.kind.Kind.TheVariants.{Gate, Drive}
use Rattle.command.specs.declared.Place.{Place}
use Rattle.command.specs.declared.Motion.{Motion}
use Rattle.command.specs.declared.Command.{Command}
use Rattle.command.specs.declared.Command.TheVariants.{SetAddress, DefineStatus, ReadStatus, SetPwm, SynchOutput, SetOutputs, SetSynchOutput, SetTimerMode, SetBaudRate, SynchInput, Nop, HardReset, ResetPosition, LoadTrajectory, StartMotion, SetGain, StopMotor}
use Rattle.command.specs.declared.Role.{Role}
use Rattle.command.specs.declared.Role.TheVariants.{Plain, Places, Paces, Masks, Captures, Zeroes, Idles, Resets}
use Rattle.command.specs.Role.{role_of, is_placing}
use Rattle.command.proofs.Roles.{only_places}
use Rattle.command.specs.Control.{loads_of}
use Rattle.message.specs.declared.Message.{Message}
use Rattle.message.specs.declared.Message.TheVariants.{Intact, Other, Spoilt}
use Rattle.node.specs.declared.gate.GateSettings.{GateSettings}
use Rattle.node.specs.declared.drive.DriveSettings.{DriveSettings}
use Rattle.node.specs.declared.state.Settings.{Settings}
use Rattle.node.specs.declared.state.Captured.{Captured}
use Rattle.node.specs.declared.state.Node.{Node}
use Rattle.node.specs.Setting.{MotionPart, Setting, place, mask, divisor, gate, drive, waiting, Value, get_motion, make_motion, make_drive, make_gate, get}
use Rattle.node.specs.Effect.{Effect, keeps, stores, brings, starting, effect, applied, settings_after, own_after}
use Rattle.node.specs.Node.{does_heed, addressed_after, captured_after, position_after, act_as, take_as}
use Rattle.node.specs.Parts.{message_role, with_drive, gate_after, drive_after, gate_take, drive_take, heeded_role, load_of, loaded_of, place_by, divisor_by, mask_by, mask_take}
use Rattle.node.proofs.Laws.{place_effect, place_effect_lem, divisor_effect, divisor_effect_lem}

-- ---- a load

-- one value, stored or kept; stored or copied
stored_or_kept : (s : Setting) (b : Bool) (v : Value s) (x : Settings) → cond b v (get x s) ≡ applied {s = s} (cond b (stores v) keeps) x
stored_or_kept s true v x = refl
stored_or_kept s false v x = refl

stored_or_copied : (m : MotionPart) (b : Bool) (v : ℕ) (x : Settings) → cond b v (get x (drive (waiting m))) ≡ applied (cond b (stores v) (starting m)) x
stored_or_copied m true v x = refl
stored_or_copied m false v x = refl

-- the motion in force after a load, by whether it starts
begun : (b : Bool) (m : Motion) (x : Settings)
    → cond b (load_of m x.drive.waiting) x.drive.in_force ≡ make_motion (λ p. applied (cond b (cond (brings m p) (stores (get_motion m p)) (starting p)) keeps) x)
begun true m x = λ i. make_motion (λ p. stored_or_copied p (brings m p) (get_motion m p) x i)
begun false m x = refl

loads : (m : Motion) (x : Settings) → loaded_of m x.drive ≡ make_drive (λ d. applied (effect (LoadTrajectory m) (drive d)) x)
loads m x = λ i. record {
  waiting = make_motion (λ p. stored_or_kept (drive (waiting p)) (brings m p) (get_motion m p) x i);
  in_force = begun (loads_of m.control).starts m x i;
  gains = x.drive.gains;
  stop = x.drive.stop;
}

-- ---- part by part

gate_part : (c : Command) (x : Settings) → gate_after c x.gate ≡ make_gate (λ g. applied (effect c (gate g)) x)
gate_part (SetAddress p) x = refl
gate_part (DefineStatus m) x = refl
gate_part (ReadStatus m) x = refl
gate_part (SetPwm w) x = refl
gate_part SynchOutput x = refl
gate_part (SetOutputs w) x = refl
gate_part (SetSynchOutput h) x = refl
gate_part (SetTimerMode m) x = refl
gate_part (SetBaudRate d) x = refl
gate_part SynchInput x = refl
gate_part Nop x = refl
gate_part HardReset x = refl
gate_part ResetPosition x = refl
gate_part (LoadTrajectory m) x = refl
gate_part StartMotion x = refl
gate_part (SetGain g) x = refl
gate_part (StopMotor s) x = refl

drive_part : (c : Command) (x : Settings) → drive_after c x.drive ≡ make_drive (λ d. applied (effect c (drive d)) x)
drive_part (SetAddress p) x = refl
drive_part (DefineStatus m) x = refl
drive_part (ReadStatus m) x = refl
drive_part (SetPwm w) x = refl
drive_part SynchOutput x = refl
drive_part (SetOutputs w) x = refl
drive_part (SetSynchOutput h) x = refl
drive_part (SetTimerMode m) x = refl
drive_part (SetBaudRate d) x = refl
drive_part SynchInput x = refl
drive_part Nop x = refl
drive_part HardReset x = refl
drive_part ResetPosition x = refl
drive_part (LoadTrajectory m) x = sym (loads m (with_drive x.drive)) ∙ loads m x
drive_part StartMotion x = refl
drive_part (SetGain g) x = refl
drive_part (StopMotor s) x = refl

mask_part : (c : Command) (x : Settings) → mask_by c x.mask ≡ applied (effect c mask) x
mask_part (SetAddress p) x = refl
mask_part (DefineStatus m) x = refl
mask_part (ReadStatus m) x = refl
mask_part (SetPwm w) x = refl
mask_part SynchOutput x = refl
mask_part (SetOutputs w) x = refl
mask_part (SetSynchOutput h) x = refl
mask_part (SetTimerMode m) x = refl
mask_part (SetBaudRate d) x = refl
mask_part SynchInput x = refl
mask_part Nop x = refl
mask_part HardReset x = refl
mask_part ResetPosition x = refl
mask_part (LoadTrajectory m) x = refl
mask_part StartMotion x = refl
mask_part (SetGain g) x = refl
mask_part (StopMotor s) x = refl

place_role : (r : Role) (x : Settings) → place_by r x.place ≡ applied (place_effect r) x
place_role Plain x = refl
place_role (Places p) x = refl
place_role (Paces d) x = refl
place_role (Masks m) x = refl
place_role Captures x = refl
place_role Zeroes x = refl
place_role Idles x = refl
place_role Resets x = refl

place_part : (c : Command) (x : Settings) → place_by (role_of c) x.place ≡ applied (effect c place) x
place_part c x = place_role (role_of c) x ∙ ap (λ (e : Effect place). applied e x) (sym (place_effect_lem c))

divisor_role : (r : Role) (x : Settings) → divisor_by r x.divisor ≡ applied (divisor_effect r) x
divisor_role Plain x = refl
divisor_role (Places p) x = refl
divisor_role (Paces d) x = refl
divisor_role (Masks m) x = refl
divisor_role Captures x = refl
divisor_role Zeroes x = refl
divisor_role Idles x = refl
divisor_role Resets x = refl

divisor_part : (c : Command) (x : Settings) → divisor_by (role_of c) x.divisor ≡ applied (effect c divisor) x
divisor_part c x = divisor_role (role_of c) x ∙ ap (λ (e : Effect divisor). applied e x) (sym (divisor_effect_lem c))

-- ---- all parts

module _ (c : Command) (x : Settings) (role : Role) (p : Place) (k v : ℕ) (er : role ≡ role_of c) (ep : p ≡ place_by role x.place) (ek : k ≡ mask_by c x.mask)
    (ev : v ≡ divisor_by role x.divisor) where
  placed : p ≡ applied (effect c place) x
  placed = ep ∙ ap (λ (r : Role). place_by r x.place) er ∙ place_part c x

  masked : k ≡ applied (effect c mask) x
  masked = ek ∙ mask_part c x

  paced : v ≡ applied (effect c divisor) x
  paced = ev ∙ ap (λ (r : Role). divisor_by r x.divisor) er ∙ divisor_part c x

  pub all_after : (g : GateSettings) (d : DriveSettings) → d ≡ drive_after c x.drive → g ≡ gate_after c x.gate
      → record { drive = d; gate = g; place = p; mask = k; divisor = v } ≡ settings_after c x
  all_after g d ed eg = λ i. record { drive = (ed ∙ drive_part c x) i; gate = (eg ∙ gate_part c x) i; place = placed i; mask = masked i; divisor = paced i }

  gate_own : (g : GateSettings) → g ≡ gate_after c x.gate → record { drive = x.drive; gate = g; place = p; mask = k; divisor = v } ≡ own_after Gate c x
  gate_own g eg = λ i. record { drive = x.drive; gate = (eg ∙ gate_part c x) i; place = placed i; mask = masked i; divisor = paced i }

  drive_own_lem : (d : DriveSettings) → d ≡ drive_after c x.drive → record { drive = d; gate = x.gate; place = p; mask = k; divisor = v } ≡ own_after Drive c x
  drive_own_lem d ed = λ i. record { drive = (ed ∙ drive_part c x) i; gate = x.gate; place = placed i; mask = masked i; divisor = paced i }

-- ---- the node

heeds_all : (r : Role) → does_heed Gate r ≡ true
heeds_all Plain = refl
heeds_all (Places p) = refl
heeds_all (Paces d) = refl
heeds_all (Masks m) = refl
heeds_all Captures = refl
heeds_all Zeroes = refl
heeds_all Idles = refl
heeds_all Resets = refl

module _ (h : Message) (role : Role) (b : Bool) (er : role ≡ message_role h) (eb : b ≡ does_heed Drive role) where
  heeding : does_heed Drive (message_role h) ≡ b
  heeding = ap (λ (x : Role). does_heed Drive x) (sym er) ∙ sym eb

  pub heeded : b ≡ true → role ≡ heeded_role h
  heeded t = rw (heeding ∙ t) er

  pub unheeded : b ≡ false → Idles ≡ heeded_role h
  unheeded f = rw (heeding ∙ f)

-- as a gate takes a packet, part by part
gate_made : (h : Message) (n : Node)
    → record {
      settings = record {
        drive = n.settings.drive;
        gate = gate_take h n.settings.gate;
        place = place_by (message_role h) n.settings.place;
        mask = mask_take h n.settings.mask;
        divisor = divisor_by (message_role h) n.settings.divisor;
      };
      bench = n.bench;
      captured = captured_after (message_role h) n.bench n.captured;
      position = n.position;
      addressed = addressed_after (message_role h) n.addressed;
      kind = n.kind;
    }
    ≡ take_as Gate h n
gate_made (Intact c) n =
    rw (heeds_all (role_of c))
    (ap (λ (s : Settings). record {
      settings = s;
      bench = n.bench;
      captured = captured_after (role_of c) n.bench n.captured;
      position = n.position;
      addressed = addressed_after (role_of c) n.addressed;
      kind = n.kind;
    }) (gate_own c n.settings (role_of c) _ _ _ refl refl refl refl (gate_after c n.settings.gate) refl))
gate_made Other n = refl
gate_made Spoilt n = refl

pub gate_taken : (h : Message) (n : Node) (role : Role) (g : GateSettings) (p : Place) (m v : ℕ) (k : Captured) (a : Bool) → role ≡ message_role h
    → g ≡ gate_take h n.settings.gate → p ≡ place_by role n.settings.place → m ≡ mask_take h n.settings.mask → v ≡ divisor_by role n.settings.divisor
    → k ≡ captured_after role n.bench n.captured
    → a ≡ addressed_after role n.addressed
    → record {
      settings = record { drive = n.settings.drive; gate = g; place = p; mask = m; divisor = v };
      bench = n.bench;
      captured = k;
      position = n.position;
      addressed = a;
      kind = n.kind;
    }
    ≡ take_as Gate h n
gate_taken h n role g p m v k a er eg ep em ev ek ea = rw (eg, ep, em, ev, ek, ea, er) (gate_made h n)

-- only a Set Address goes unheeded
unheeded_places : (k : Kind) (r : Role) → does_heed k r ≡ false → is_placing r ≡ true
unheeded_places k Plain h = absurd (true≢false h)
unheeded_places k (Places p) h = refl
unheeded_places k (Paces d) h = absurd (true≢false h)
unheeded_places k (Masks m) h = absurd (true≢false h)
unheeded_places k Captures h = absurd (true≢false h)
unheeded_places k Zeroes h = absurd (true≢false h)
unheeded_places k Idles h = absurd (true≢false h)
unheeded_places k Resets h = absurd (true≢false h)

-- and changes nothing but the place
left_alone : (c : Command) (q : Place) (n : Node) → c ≡ SetAddress q
    → record {
      settings = record { drive = drive_after c n.settings.drive; gate = n.settings.gate; place = n.settings.place; mask = mask_by c n.settings.mask; divisor = n.settings.divisor };
      bench = n.bench;
      captured = n.captured;
      position = n.position;
      addressed = n.addressed;
      kind = n.kind;
    }
    ≡ n
left_alone c q n e = rw e

-- as a drive takes it
abbrev driving : Message → Role → Node → Node
driving h r n = record {
  settings = record {
    drive = drive_take h n.settings.drive;
    gate = n.settings.gate;
    place = place_by r n.settings.place;
    mask = mask_take h n.settings.mask;
    divisor = divisor_by r n.settings.divisor;
  };
  bench = n.bench;
  captured = n.captured;
  position = position_after r n.position;
  addressed = addressed_after r n.addressed;
  kind = n.kind;
}

drive_by : (b : Bool) (c : Command) (n : Node) → does_heed Drive (role_of c) ≡ b → driving (Intact c) (cond b (role_of c) Idles) n ≡ cond b (act_as Drive c n) n
drive_by true c n e =
    ap (λ (s : Settings). record {
      settings = s;
      bench = n.bench;
      captured = n.captured;
      position = position_after (role_of c) n.position;
      addressed = addressed_after (role_of c) n.addressed;
      kind = n.kind;
    }) (drive_own_lem c n.settings (role_of c) _ _ _ refl refl refl refl (drive_after c n.settings.drive) refl)
drive_by false c n e = let p = only_places c (unheeded_places Drive (role_of c) e) in left_alone c p.to n p.by

drive_made : (h : Message) (n : Node) → driving h (heeded_role h) n ≡ take_as Drive h n
drive_made (Intact c) n = drive_by (does_heed Drive (role_of c)) c n refl
drive_made Other n = refl
drive_made Spoilt n = refl

pub drive_taken : (h : Message) (n : Node) (role : Role) (d : DriveSettings) (p : Place) (m v k : ℕ) (a : Bool) → role ≡ heeded_role h
    → d ≡ drive_take h n.settings.drive → p ≡ place_by role n.settings.place → m ≡ mask_take h n.settings.mask → v ≡ divisor_by role n.settings.divisor
    → k ≡ position_after role n.position
    → a ≡ addressed_after role n.addressed
    → record {
      settings = record { drive = d; gate = n.settings.gate; place = p; mask = m; divisor = v };
      bench = n.bench;
      captured = n.captured;
      position = k;
      addressed = a;
      kind = n.kind;
    }
    ≡ take_as Drive h n
drive_taken h n role d p m v k a er ed ep em ev ek ea = rw (ed, ep, em, ev, ek, ea, er) (drive_made h n)
