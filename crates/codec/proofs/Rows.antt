-- Reading goes by rows, and each row is a command's number and count: what is read has them, and comes from no other bytes.
use Prim.Native.Nat.{ℕ, ◌+◌, ◌%◌, ◌<◌, ◌≤◌}
use Rattle.std.specs.Prelude.{Option, Some, None}
use mathlib.Core.Bool.{Bool, true, false, cond}
use mathlib.Core.List.{List, [], ◌∷◌, ◌++◌}
use mathlib.Core.Path.{◌≡◌, refl, sym, ap, ◌∙◌}
use native.Mathlib.Omega.{arith}
use lib.Dec.{eqb, ltb}
use lib.ListN.{length, get_or}
use lib.Seq.{drop-length}
use borrow.Author.Tests.{eqb-true, ltb-true, ltb-false}
use Rattle.buffer.specs.Change.{AllBytes}
use Rattle.wire.specs.declared.kind.Kind.{Kind}
use Rattle.wire.specs.declared.kind.Kind.TheVariants.{Gate, Drive}
use Rattle.wire.proofs.Choice.{chose_first}
use Rattle.buffer.proofs.Bytes.{byte_at}
use Rattle.wire.proofs.Impossible.{impossible}
use Rattle.command.specs.Owner.{owner_of}
use Rattle.command.specs.Ranges.{fits_of}
use Rattle.command.specs.declared.Command.{Command}
use Rattle.command.specs.declared.Command.TheVariants.{SetAddress, DefineStatus, ReadStatus, SetPwm, SynchOutput, SetOutputs, SetSynchOutput, SetTimerMode, SetBaudRate, SynchInput, Nop, HardReset, ResetPosition, LoadTrajectory, StartMotion, SetGain, StopMotor}
use Rattle.command.specs.declared.Owner.{Owner}
use Rattle.command.specs.declared.Owner.TheVariants as owner
use Rattle.codec.specs.Reading.{word_at, place_of, load_count, motion_of, gains_of, stop_count, stop_of, shared_rows, gate_rows, drive_rows, own_rows, or_else, codec_read}
use Rattle.codec.specs.Build.{code_of, own_data, word_bytes, group_byte, Typed}
use Rattle.codec.proofs.Values.{byte_from, word_from, byte_if_ends}
use Rattle.codec.proofs.Loads.{load_few, load_read, loaded, gain_count, gained_bytes, stop_few, stop_read, stopped}

-- a command's number is a nibble, and it has at most fourteen data bytes
pub sized : (c : Command) → (code_of c ≤ 15) × (length (own_data c) ≤ 14)
sized (SetAddress p) = (omega arith, omega arith)
sized (DefineStatus m) = (omega arith, omega arith)
sized (ReadStatus m) = (omega arith, omega arith)
sized (SetPwm w) = (omega arith, omega arith)
sized SynchOutput = (omega arith, omega arith)
sized (SetOutputs w) = (omega arith, omega arith)
sized (SetSynchOutput h) = (omega arith, omega arith)
sized (SetTimerMode m) = (omega arith, omega arith)
sized (SetBaudRate d) = (omega arith, omega arith)
sized SynchInput = (omega arith, omega arith)
sized Nop = (omega arith, omega arith)
sized HardReset = (omega arith, omega arith)
sized ResetPosition = (omega arith, omega arith)
sized (LoadTrajectory m) = (omega arith, load_few m)
sized StartMotion = (omega arith, omega arith)
sized (SetGain g) = (omega arith, omega (arith, gain_count g))
sized (StopMotor s) = (omega arith, stop_few s)

-- what the rows say of who has a command that they read, and of the number, the count and the data bytes from which they read it
pub record Says (o : Owner) (k n : ℕ) (d : List ℕ) (c : Command) : Type 0 where
  pub owned : owner_of c ≡ o
  pub code : code_of c ≡ k
  pub count : length (own_data c) ≡ n
  pub bytes : length d ≡ n → AllBytes d → own_data c ≡ d
  pub fits : fits_of c ≡ true
  pub typed : Typed c

pub other_not : {c : Command} → None ≡ Some c → ⊥
other_not e = impossible cc

-- a command that is read is read by this row, or by those behind it
pub met : {G : Type 0} (t u : Bool) {r rest : Option Command} {c : Command} → cond t (cond u r None) rest ≡ Some c
    → (t ≡ true → u ≡ true → r ≡ Some c → G) → (rest ≡ Some c → G) → G
met true true e f g = f refl refl e
met true false e f g = absurd (other_not e)
met false u e f g = g e

-- the row of v, if the data bytes of v are those that are read
said : (o : Owner) (k n : ℕ) (d : List ℕ) (c v : Command) → owner_of v ≡ o → eqb k (code_of v) ≡ true → eqb n (length (own_data v)) ≡ true → Some v ≡ Some c
    → (length d ≡ length (own_data v) → AllBytes d → own_data v ≡ d) → fits_of v ≡ true → Typed v → Says o k n d c
said o k n d c v w a b q h f t =
    let e : v ≡ c = cc in
    let m = eqb-true n (length (own_data v)) b in
    rw (← e) (record { owned = w; code = sym (eqb-true k (code_of v) a); count = sym m; bytes = λ i. h (i ∙ m); fits = f; typed = t })

-- so many data bytes are those that were looked at
none : (d : List ℕ) → length d ≡ 0 → AllBytes d → [] ≡ d
none [] n h = refl
none (x ∷ d) n h = absurd (omega arith)

one : (d : List ℕ) → length d ≡ 1 → AllBytes d → get_or d 0 0 ∷ [] ≡ d
one d n h = byte_if_ends d true 0 n

two : (d : List ℕ) → length d ≡ 2 → AllBytes d → get_or d 0 0 ∷ get_or d 1 0 ∷ [] ≡ d
two d n h = ap (λ (l : List ℕ). get_or d 0 0 ∷ l) (byte_if_ends d true 1 n) ∙ byte_from d 0 1 refl (omega arith)

-- data bytes that are a word, and a word with two bytes behind it
words : (d : List ℕ) → length d ≡ 2 → AllBytes d → word_bytes (word_at d 0) ≡ d
words d n h = rw (drop-length d) at (word_from d 0 (length d) n (omega arith) h)

four : (d : List ℕ) → length d ≡ 4 → AllBytes d → word_bytes (word_at d 0) ++ (get_or d 2 0 ∷ get_or d 3 0 ∷ []) ≡ d
four d n h =
    ap (λ (l : List ℕ). word_bytes (word_at d 0) ++ (get_or d 2 0 ∷ l)) (byte_if_ends d true 3 n)
    ∙ ap (λ (l : List ℕ). word_bytes (word_at d 0) ++ l) (byte_from d 2 3 refl (omega arith))
    ∙ word_from d 0 2 refl (omega arith) h

-- the second data byte of Set Address comes back
group_back : (t : Bool) (g : ℕ) → ltb g 0x80 ≡ t → g < 256 → cond t ((g % 0x80 + 0x80) % 0x80) ((g % 0x80 + 0x80) % 0x80 + 0x80) ≡ g
group_back true g e h = omega (arith, ltb-true)
group_back false g e h = omega (arith, ltb-false)

placed : (d : List ℕ) → length d ≡ 2 → AllBytes d → get_or d 0 0 ∷ group_byte (place_of (get_or d 0 0) (get_or d 1 0)) ∷ [] ≡ d
placed d n h = rw (group_back (ltb (get_or d 1 0) 0x80) (get_or d 1 0) refl (byte_at d 1 h)) (two d n h)

-- row by row: what the shared rows read both kinds have,
pub says_shared : (k n : ℕ) (d : List ℕ) (c : Command) → shared_rows k n d ≡ Some c → Says owner.Both k n d c
unfolding shared_rows
says_shared k n d c e =
    met (eqb k 0x1) (eqb n 2) e (λ a b q. let t = chose_first (fits_of (SetAddress (place_of (get_or d 0 0) (get_or d 1 0)))) q other_not in
    said owner.Both k n d c (SetAddress (place_of (get_or d 0 0) (get_or d 1 0))) refl a b t.1 (placed d) t.0 (omega arith))
    (λ e. met (eqb k 0x2) (eqb n 1) e (λ a b q. said owner.Both k n d c _ refl a b q (one d) refl tt)
    (λ e. met (eqb k 0x3) (eqb n 1) e (λ a b q. said owner.Both k n d c _ refl a b q (one d) refl tt)
    (λ e. met (eqb k 0xA) (eqb n 1) e (λ a b q. said owner.Both k n d c _ refl a b q (one d) refl tt)
    (λ e. met (eqb k 0xE) (eqb n 0) e (λ a b q. said owner.Both k n d c _ refl a b q (none d) refl tt)
    (λ e. met (eqb k 0xF) (eqb n 0) e (λ a b q. said owner.Both k n d c _ refl a b q (none d) refl tt)
    (λ e. absurd (other_not e)))))))

-- what a gate's own rows read a gate alone has,
pub says_gate : (k n : ℕ) (d : List ℕ) (c : Command) → gate_rows k n d ≡ Some c → Says owner.Gate k n d c
unfolding gate_rows
says_gate k n d c e =
    met (eqb k 0x4) (eqb n 2) e (λ a b q. said owner.Gate k n d c _ refl a b q (two d) refl tt)
    (λ e. met (eqb k 0x5) (eqb n 0) e (λ a b q. said owner.Gate k n d c _ refl a b q (none d) refl tt)
    (λ e. met (eqb k 0x6) (eqb n 2) e (λ a b q. said owner.Gate k n d c _ refl a b q (words d) refl tt)
    (λ e. met (eqb k 0x7) (eqb n 4) e (λ a b q. said owner.Gate k n d c _ refl a b q (four d) refl tt)
    (λ e. met (eqb k 0x8) (eqb n 1) e (λ a b q. said owner.Gate k n d c _ refl a b q (one d) refl tt)
    (λ e. met (eqb k 0xC) (eqb n 0) e (λ a b q. said owner.Gate k n d c _ refl a b q (none d) refl tt)
    (λ e. absurd (other_not e)))))))

-- and what a drive's own rows read a drive alone
module _ (k n : ℕ) (d : List ℕ) (c : Command) where
  load_said : eqb k 0x4 ≡ true → eqb n (load_count (get_or d 0 0)) ≡ true → cond (fits_of (LoadTrajectory (motion_of d))) (Some (LoadTrajectory (motion_of d))) None ≡ Some c
      → Says owner.Drive k n d c
  load_said a b q =
      let t = chose_first (fits_of (LoadTrajectory (motion_of d))) q other_not in
      let m : load_count (get_or d 0 0) ≡ length (own_data (LoadTrajectory (motion_of d))) = load_read d in
      said owner.Drive k n d c (LoadTrajectory (motion_of d)) refl a (rw m at b) t.1 (λ i. loaded d (i ∙ sym m)) t.0 tt

  gain_said : eqb k 0x6 ≡ true → eqb n 14 ≡ true → cond (eqb (get_or d 9 0) 0) (cond (fits_of (SetGain (gains_of d))) (Some (SetGain (gains_of d))) None) None ≡ Some c → Says owner.Drive k n d c
  gain_said a b q =
      let z = chose_first (eqb (get_or d 9 0) 0) q other_not in
      let t = chose_first (fits_of (SetGain (gains_of d))) z.1 other_not in
      let m : 14 ≡ length (own_data (SetGain (gains_of d))) = gain_count (gains_of d) in
      said owner.Drive k n d c (SetGain (gains_of d)) refl a (rw m at b) t.1 (λ i. gained_bytes d (eqb-true (get_or d 9 0) 0 z.0) (i ∙ sym m)) t.0 tt

  stop_said : eqb k 0x7 ≡ true → eqb n (stop_count (get_or d 0 0)) ≡ true → cond (fits_of (StopMotor (stop_of d))) (Some (StopMotor (stop_of d))) None ≡ Some c → Says owner.Drive k n d c
  stop_said a b q =
      let t = chose_first (fits_of (StopMotor (stop_of d))) q other_not in
      let m : stop_count (get_or d 0 0) ≡ length (own_data (StopMotor (stop_of d))) = stop_read d in
      said owner.Drive k n d c (StopMotor (stop_of d)) refl a (rw m at b) t.1 (λ i. stopped d (i ∙ sym m)) t.0 tt

  pub says_drive : drive_rows k n d ≡ Some c → Says owner.Drive k n d c
  unfolding drive_rows
  says_drive e =
      met (eqb k 0x0) (eqb n 0) e (λ a b q. said owner.Drive k n d c _ refl a b q (none d) refl tt)
      (λ e. met (eqb k 0x4) (eqb n (load_count (get_or d 0 0))) e load_said
      (λ e. met (eqb k 0x5) (eqb n 0) e (λ a b q. said owner.Drive k n d c _ refl a b q (none d) refl tt)
      (λ e. met (eqb k 0x6) (eqb n 14) e gain_said
      (λ e. met (eqb k 0x7) (eqb n (stop_count (get_or d 0 0))) e stop_said
      (λ e. absurd (other_not e))))))

-- who has what a kind's own rows read
abbrev pub own_owner : Kind → Owner
own_owner Gate = owner.Gate
own_owner Drive = owner.Drive

pub says_own : (kind : Kind) (k n : ℕ) (d : List ℕ) (c : Command) → own_rows kind k n d ≡ Some c → Says (own_owner kind) k n d c
says_own Gate k n d c e = says_gate k n d c e
says_own Drive k n d c e = says_drive k n d c e

-- what is read is read by the shared rows, which are every kind's, or by those of the kind
pub split : {G : Type 0} (kind : Kind) (k : ℕ) (d : List ℕ) (c : Command) → codec_read kind k d ≡ Some c
    → (shared_rows k (length d) d ≡ Some c → G) → (own_rows kind k (length d) d ≡ Some c → G) → G
unfolding codec_read
split {G} kind k d c e f g = go (shared_rows k (length d) d) refl e
  where
    go : (r : Option Command) → shared_rows k (length d) d ≡ r → or_else r (own_rows kind k (length d) d) ≡ Some c → G
    go (Some v) s e = f (s ∙ e)
    go None s e = g e

-- what the shared rows read every kind reads
pub shared_known : (kind : Kind) (k : ℕ) (d : List ℕ) (c : Command) → shared_rows k (length d) d ≡ Some c → codec_read kind k d ≡ Some c
unfolding codec_read
shared_known kind k d c e = ap (λ (r : Option Command). or_else r (own_rows kind k (length d) d)) e

-- what is no command is another one
pub unknown : (r : Option Command) → ((c : Command) → r ≡ Some c → ⊥) → None ≡ r
unknown (Some c) f = absurd (f c refl)
unknown None f = refl

module _ (kind : Kind) (k : ℕ) (d : List ℕ) where
  misread : ((c : Command) → code_of c ≡ k → length (own_data c) ≡ length d → ⊥) → None ≡ codec_read kind k d
  misread f = unknown (codec_read kind k d) (λ c e. split kind k d c e
      (λ s. let t = says_shared k (length d) d c s in f c t.code t.count)
      (λ s. let t = says_own kind k (length d) d c s in f c t.code t.count))

  pub above : 15 < k → None ≡ codec_read kind k d
  above h = misread (λ c e n. let z = sized c in omega arith)

  pub beyond : 15 < length d → None ≡ codec_read kind k d
  beyond h = misread (λ c e n. let z = sized c in omega arith)
