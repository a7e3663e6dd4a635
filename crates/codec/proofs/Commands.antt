-- Commands: what the builder writes, whatever follows it, reads back as the same command for each kind of node that has it, and ends at its length;
-- up to its end an accepted packet is what it writes from its parts; what both kinds have they read alike; a refused builder leaves the buffer as it stood.
use Prim.Native.Nat.{ℕ, ◌+◌, ◌%◌, ◌<◌, ◌≤◌}
use Rattle.std.specs.Prelude.{Some}
use mathlib.Core.Bool.{Bool, true, false, cond, true≢false, false≢true}
use mathlib.Core.List.{List, ◌++◌}
use mathlib.Core.Path.{◌≡◌, refl, sym, ap, ◌∙◌}
use native.Mathlib.Omega.{arith}
use lib.ListN.{length, get_or, take}
use lib.Seq.{length-take-le}
use borrow.Author.Tests.{lt-ltb, le-ltb, le-leb, leb-true, eq-eqb}
use Rattle.wire.specs.Address.{individual_in_range, group_in_range, in_range, byte_of}
use Rattle.buffer.specs.Buffer.{at_start, written}
use Rattle.buffer.specs.Change.{AllBytes}
use Rattle.wire.specs.declared.address.Address.{Address}
use Rattle.wire.specs.declared.kind.Kind.{Kind}
use Rattle.wire.specs.declared.kind.Kind.TheVariants.{Gate, Drive}
use Rattle.wire.specs.declared.refusal.Refusal.TheVariants.{Range}
use Rattle.wire.proofs.Addresses.{address_back, address_in_range}
use Rattle.wire.proofs.Choice.{chose_first, both}
use Rattle.wire.proofs.Impossible.{impossible}
use Rattle.buffer.proofs.Writing.{written_fits, wrote, wrote_not, written_count, written_wrote}
use Rattle.buffer.proofs.Refusals.{Spares, written_spares, else_spares}
use Rattle.packet.specs.Packet.{read_of, data_part, whole}
use Rattle.packet.proofs.Packets as packets
use Rattle.packet.proofs.Laws as packet
use Rattle.command.specs.Role.{role_of, is_placing}
use Rattle.command.specs.Owner.{owner_of, has_by, has}
use Rattle.command.specs.Ranges.{fits_of}
use Rattle.command.specs.declared.Owner.{Owner}
use Rattle.command.specs.declared.Owner.TheVariants as owner
use Rattle.command.specs.declared.Motion.{Motion}
use Rattle.command.specs.declared.Gains.{Gains}
use Rattle.command.specs.declared.Stop.{Stop}
use Rattle.command.specs.declared.Command.{Command}
use Rattle.command.specs.declared.Command.TheVariants.{SetAddress, DefineStatus, ReadStatus, SetPwm, SynchOutput, SetOutputs, SetSynchOutput, SetTimerMode, SetBaudRate, SynchInput, Nop, HardReset, ResetPosition, LoadTrajectory, StartMotion, SetGain, StopMotor}
use Rattle.command.specs.declared.Role.{Role}
use Rattle.command.specs.declared.Role.TheVariants.{Plain, Places, Paces, Masks, Captures, Zeroes, Idles, Resets}
use Rattle.codec.specs.Reading.{place_of, load_count, stop_count, motion_of, gains_of, stop_of, shared_rows, gate_rows, drive_rows, codec_read, ReadsAs}
use Rattle.codec.specs.Build.{code_of, own_data, group_byte, typed_by, Typed, load_data, gain_data, stop_data, packet_for, build_for, codec_build}
use Rattle.codec.proofs.Values.{word_back}
use Rattle.codec.proofs.Loads.{load_count_lem, load_first, motion_back, gain_count, gain_tenth, gains_back, stop_count_lem, stop_first, stop_back}
use Rattle.codec.proofs.Rows.{sized, says_shared, own_owner, says_own, split, shared_known}

-- ---- a command's number and data bytes read back as the command

-- the two data bytes of Set Address give the place
place_back : (a g : ℕ) (l : Bool) → 0x80 ≤ g → g < 256
    → place_of a (cond l (g % 0x80) (g % 0x80 + 0x80)) ≡ record { address = record { 0 = a }; group = record { 0 = g }; leader = l }
place_back a g true h k =
    let e : g % 0x80 % 0x80 + 0x80 ≡ g = omega arith in
    rw (e, lt-ltb (g % 0x80) 0x80 (omega arith))
place_back a g false h k =
    let e : (g % 0x80 + 0x80) % 0x80 + 0x80 ≡ g = omega arith in
    rw (e, le-ltb (g % 0x80 + 0x80) 0x80 (omega arith))

-- a drive's commands that have data bytes
module _ (d : List ℕ) where
  load_row : (m : Motion) → length d ≡ load_count (get_or d 0 0) → motion_of d ≡ m → fits_of (LoadTrajectory m) ≡ true → codec_read Drive 0x4 d ≡ Some (LoadTrajectory m)
  unfolding codec_read shared_rows drive_rows
  load_row m n e h = rw (eq-eqb (length d) (load_count (get_or d 0 0)) n, e, h)

  gain_row : (g : Gains) → length d ≡ 14 → get_or d 9 0 ≡ 0 → gains_of d ≡ g → fits_of (SetGain g) ≡ true → codec_read Drive 0x6 d ≡ Some (SetGain g)
  unfolding codec_read shared_rows drive_rows
  gain_row g n z e h = rw (n, z, e, h)

  stop_row : (s : Stop) → length d ≡ stop_count (get_or d 0 0) → stop_of d ≡ s → fits_of (StopMotor s) ≡ true → codec_read Drive 0x7 d ≡ Some (StopMotor s)
  unfolding codec_read shared_rows drive_rows
  stop_row s n e h = rw (eq-eqb (length d) (stop_count (get_or d 0 0)) n, e, h)

load_back : (m : Motion) → fits_of (LoadTrajectory m) ≡ true → codec_read Drive 0x4 (load_data m) ≡ Some (LoadTrajectory m)
load_back m h = load_row (load_data m) m (sym (load_count_lem m) ∙ ap (λ (x : ℕ). load_count x) (load_first m)) (motion_back m h) h

gain_back : (g : Gains) → fits_of (SetGain g) ≡ true → codec_read Drive 0x6 (gain_data g) ≡ Some (SetGain g)
gain_back g h = gain_row (gain_data g) g (sym (gain_count g)) (gain_tenth g) (gains_back g) h

halt_back : (s : Stop) → fits_of (StopMotor s) ≡ true → codec_read Drive 0x7 (stop_data s) ≡ Some (StopMotor s)
halt_back s h = stop_row (stop_data s) s (sym (stop_count_lem s) ∙ ap (λ (x : ℕ). stop_count x) (stop_first s)) (stop_back s h) h

pub read_back : (kind : Kind) (c : Command) → has kind c ≡ true → fits_of c ≡ true → Typed c → codec_read kind (code_of c) (own_data c) ≡ Some c
unfolding codec_read shared_rows gate_rows drive_rows
read_back kind (SetAddress p) o h t =
    let f = both (individual_in_range p.address.0) (group_in_range p.group.0) h in
    rw (f.0, le-leb 0x80 (group_byte p % 0x80 + 0x80) (omega arith), place_back p.address.0 p.group.0 p.leader (leb-true 0x80 p.group.0 f.1) t)
read_back kind (DefineStatus m) o h t = refl
read_back kind (ReadStatus m) o h t = refl
read_back Gate (SetPwm w) o h t = refl
read_back Gate SynchOutput o h t = refl
read_back Gate (SetOutputs w) o h t = rw (word_back w)
read_back Gate (SetSynchOutput s) o h t = rw (word_back s.outputs)
read_back Gate (SetTimerMode m) o h t = refl
read_back Gate SynchInput o h t = refl
read_back Drive (SetPwm w) o h t = absurd (false≢true o)
read_back Drive SynchOutput o h t = absurd (false≢true o)
read_back Drive (SetOutputs w) o h t = absurd (false≢true o)
read_back Drive (SetSynchOutput s) o h t = absurd (false≢true o)
read_back Drive (SetTimerMode m) o h t = absurd (false≢true o)
read_back Drive SynchInput o h t = absurd (false≢true o)
read_back kind (SetBaudRate d) o h t = refl
read_back kind Nop o h t = refl
read_back kind HardReset o h t = refl
read_back Gate ResetPosition o h t = absurd (false≢true o)
read_back Gate (LoadTrajectory m) o h t = absurd (false≢true o)
read_back Gate StartMotion o h t = absurd (false≢true o)
read_back Gate (SetGain g) o h t = absurd (false≢true o)
read_back Gate (StopMotor s) o h t = absurd (false≢true o)
read_back Drive ResetPosition o h t = refl
read_back Drive (LoadTrajectory m) o h t = load_back m h
read_back Drive StartMotion o h t = refl
read_back Drive (SetGain g) o h t = gain_back g h
read_back Drive (StopMotor s) o h t = halt_back s h

-- and a command that is read comes from its own number and data bytes, and is of its range,
pub read_from : (kind : Kind) (k : ℕ) (d : List ℕ) (c : Command) → AllBytes d → codec_read kind k d ≡ Some c → (code_of c ≡ k) × (own_data c ≡ d) × (fits_of c ≡ true)
read_from kind k d c h e =
    split kind k d c e
    (λ e. let s = says_shared k (length d) d c e in (s.code, s.bytes refl h, s.fits))
    (λ e. let s = says_own kind k (length d) d c e in (s.code, s.bytes refl h, s.fits))

own_has : (kind : Kind) → has_by kind (own_owner kind) ≡ true
own_has Gate = refl
own_has Drive = refl

-- and the kind has it
pub read_has : (kind : Kind) (k : ℕ) (d : List ℕ) (c : Command) → codec_read kind k d ≡ Some c → has kind c ≡ true
read_has kind k d c e =
    split kind k d c e
    (λ e. ap (λ (o : Owner). has_by kind o) (says_shared k (length d) d c e).owned)
    (λ e. ap (λ (o : Owner). has_by kind o) (says_own kind k (length d) d c e).owned ∙ own_has kind)

read_typed : (kind : Kind) (k : ℕ) (d : List ℕ) (c : Command) → codec_read kind k d ≡ Some c → (fits_of c ≡ true) × Typed c
read_typed kind k d c e =
    split kind k d c e
    (λ e. let s = says_shared k (length d) d c e in (s.fits, s.typed))
    (λ e. let s = says_own kind k (length d) d c e in (s.fits, s.typed))

-- a command that both kinds have is read alike by both
own_not_both : (kind : Kind) → own_owner kind ≡ owner.Both → ⊥
own_not_both Gate e = impossible cc
own_not_both Drive e = impossible cc

pub shared_alike : (kind other : Kind) (k : ℕ) (d : List ℕ) (c : Command) → owner_of c ≡ owner.Both → codec_read kind k d ≡ Some c → codec_read other k d ≡ Some c
shared_alike kind other k d c o e =
    split kind k d c e
    (λ e. shared_known other k d c e)
    (λ e. absurd (own_not_both kind (sym (says_own kind k (length d) d c e).owned ∙ o)))

-- only a place must be typed
role_typed : (r : Role) → is_placing r ≡ false → typed_by r
role_typed Plain h = tt
role_typed (Places p) h = absurd (true≢false h)
role_typed (Paces d) h = tt
role_typed (Masks m) h = tt
role_typed Captures h = tt
role_typed Zeroes h = tt
role_typed Idles h = tt
role_typed Resets h = tt

pub unplaced_typed : (c : Command) → is_placing (role_of c) ≡ false → Typed c
unplaced_typed c h = role_typed (role_of c) h

-- ---- from bytes to bytes

built_length : (a : Address) (c : Command) → length (packet_for a c) ≡ 4 + length (own_data c)
built_length a c = packets.built_length (byte_of a) (code_of c) (own_data c)

-- no command has more than fourteen data bytes, so no packet of one more than 18
pub built_few : (a : Address) (c : Command) → length (packet_for a c) ≤ 18
built_few a c = let z = sized c in omega (arith, built_length a c)

-- some bytes begin with a packet with a right sum, which ends at n and has the number and the data bytes of command c, to address a: whatever kind of node reads it
pub record Frames (s : List ℕ) (a : Address) (c : Command) (n : ℕ) : Type 0 where
  pub whole : read_of s ≡ whole a (code_of c) n
  pub bytes : data_part s ≡ own_data c

-- so does a built packet, whatever follows it, and it ends at its length
pub built_frames : (a : Address) (c : Command) → in_range a ≡ true → (more : List ℕ) → Frames (packet_for a c ++ more) a c (length (packet_for a c))
built_frames a c h more =
    let z = sized c in
    let small : code_of c < 16 = omega arith in
    record {
      whole = rw (built_length a c) (rw (address_back a h) at (packets.built_reads (byte_of a) (code_of c) (own_data c) more small));
      bytes = packets.built_data (byte_of a) (code_of c) (own_data c) more small;
    }

-- and reads back as the same command
pub built_reads : (kind : Kind) (a : Address) (c : Command) → has kind c ≡ true → in_range a ≡ true → fits_of c ≡ true → Typed c → (more : List ℕ)
    → ReadsAs kind (packet_for a c ++ more) a c (length (packet_for a c))
built_reads kind a c o h f t more =
    let b = built_frames a c h more in
    record { command = code_of c; whole = b.whole; known = rw b.bytes (read_back kind c o f t) }

-- up to its end an accepted packet is the one that we would build from its parts
pub reads_built : (kind : Kind) (s : List ℕ) (a : Address) (c : Command) (n : ℕ) → AllBytes s → ReadsAs kind s a c n → take n s ≡ packet_for a c
reads_built kind s a c n h r =
    let e = read_from kind r.command (data_part s) c (packet.data_bytes s h) r.known in
    rw (e.0, e.1) (packets.accepted_built s a r.command n r.whole)

-- whose address and command are of their ranges, and the kind has it, so that they are built and read back
pub reads_in_range : (kind : Kind) (s : List ℕ) (a : Address) (c : Command) (n : ℕ) → ReadsAs kind s a c n → (in_range a ≡ true) × (fits_of c ≡ true) × Typed c × (has kind c ≡ true)
reads_in_range kind s a c n r =
    let f = packets.read_framing s a r.command n r.whole in
    let g = read_typed kind r.command (data_part s) c r.known in
    (rw (← f.address) (address_in_range (get_or s 1 0)), g.0, g.1, read_has kind r.command (data_part s) c r.known)

-- ---- what building answers

pub built_written : (to : Address) (c : Command) (out : List ℕ) → in_range to ≡ true → fits_of c ≡ true → codec_build to c out ≡ written (packet_for to c) out
unfolding codec_build build_for
built_written to c out h f = rw (h, f)

-- what the builder writes, n bytes, reads back as the same command and ends there, whatever follows it
pub written_reads : (kind : Kind) (to : Address) (c : Command) (out left : List ℕ) (n : ℕ) → has kind c ≡ true → Typed c → codec_build to c out ≡ wrote n left → (more : List ℕ)
    → ReadsAs kind (take n left ++ more) to c n
unfolding codec_build build_for
written_reads kind to c out left n o t e more =
    let h = chose_first (in_range to) e (wrote_not Range out left n) in
    let f = chose_first (fits_of c) h.1 (wrote_not Range out left n) in
    let k : length (packet_for to c) ≡ n = written_count (packet_for to c) out left n f.1 in
    rw (written_wrote (packet_for to c) out left n f.1) (rw k at (built_reads kind to c o h.0 f.0 t more))

-- up to its end an accepted packet is, where it has room, what the builder writes from its address and command
pub reads_written : (kind : Kind) (s : List ℕ) (a : Address) (c : Command) (n : ℕ) (out : List ℕ) → AllBytes s → ReadsAs kind s a c n → n ≤ length out → codec_build a c out ≡ at_start (take n s) out
reads_written kind s a c n out b r h =
    let f = reads_in_range kind s a c n r in
    let g = packets.read_framing s a r.command n r.whole in
    let k : length (take n s) ≡ n = length-take-le n s g.reaches in
    built_written a c out f.0 f.1 ∙ rw (← (reads_built kind s a c n b r)) (written_fits (take n s) out (omega arith))

-- any number but 0 leaves the buffer as it stood
pub command_spares : (to : Address) (c : Command) (out : List ℕ) → Spares out (codec_build to c out)
unfolding codec_build build_for
command_spares to c out = else_spares (in_range to) Range out _ (else_spares (fits_of c) Range out _ (written_spares (packet_for to c) out))
