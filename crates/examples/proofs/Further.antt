-- The others hold likewise.
use Prim.Native.Nat.{ℕ}
use Rattle.std.specs.Prelude.{Ok, Err, Some, None}
use mathlib.Core.Bool.{true, false}
use mathlib.Core.List.{List}
use mathlib.Core.Path.{◌≡◌, refl}
use Rattle.buffer.specs.Sum.{total, ends_in_sum}
use Rattle.buffer.specs.Buffer.{written}
use Rattle.wire.specs.declared.refusal.Refusal.TheVariants.{NotDue, Led}
use Rattle.packet.specs.Packet.{frame_of, is_intact, read_of}
use Rattle.command.specs.declared.Command.{Command}
use Rattle.command.specs.declared.Command.TheVariants.{SetAddress, SynchOutput, SetSynchOutput, Nop}
use Rattle.command.specs.Divisors.{is_listed}
use Rattle.codec.specs.Build.{build_for, codec_build}
use Rattle.status.specs.declared.Answer.TheVariants as answer
use Rattle.node.specs.Effect.{divisor_up}
use Rattle.entry.specs.declared.Entry.{Entry}
use Rattle.ledger.specs.Ledger.{ledger_least, each_from, settle_of, any_from, is_led, is_lacked, is_unlisted, is_off_list}
use Rattle.session.specs.declared.Exchange.TheVariants.{Waiting}
use Rattle.session.specs.declared.Session.{Session}
use Rattle.session.specs.Session.{is_valid, is_closed, is_ask_due, node_at, given_place}
use Rattle.sending.specs.Sending.{is_waiting, test_of, open_exchange, transmit_of}
use Rattle.walk.specs.Walk.{next_check, ask_check, next_of, ask_of}
use Rattle.host.specs.Calls.{has_rival, order_check, regroup_check, order_of, regroup_of}
use Rattle.reports.specs.Report.{is_giving, is_asking, noted_of, conclude_of, finish_of}
use Rattle.examples.specs.Example.{next, ask, order, regroup, step_of, known_but, entry_with, addressed, pair, TwoNodes, shown, ready}
use Rattle.examples.specs.Starred.{fresh}
use Rattle.examples.specs.Further.{some_held, leads80, joined80, up, unplaced, confirmed1, Further}
use Rattle.examples.proofs.Rows.{clear, ◌and◌}

-- node 2 with its held set in doubt, and all that is copied from it
abbrev unheld : TwoNodes
unheld = ready (addressed 1) (entry_with (given_place 2) 0 (known_but true true false))

abbrev uncopied : TwoNodes
uncopied = ready (addressed 1) (entry_with (given_place 2) 0 (known_but false false false))

-- node 2 joins 0x80
abbrev joins : Command
joins = SetAddress (record { address = record { 0 = 2 }; group = record { 0 = 0x80 }; leader = false })

module _ (rest : List Entry) where
  -- two nodes as shown, and a command waits at one of them
  abbrev waiting : ℕ → Command → TwoNodes → Session
  waiting k c r = pair r.walk (Waiting divisor_up (node_at k) c) r.first r.second rest

  sent_held : step_of (order (node_at 2) (SetSynchOutput some_held)) (shown fresh rest) ≡ record { end = Ok (Some 8); session = waiting 2 (SetSynchOutput some_held) fresh }
  unfolding total written build_for codec_build is_valid is_closed is_waiting is_listed is_unlisted is_off_list test_of order_check is_lacked any_from ledger_least open_exchange transmit_of order_of
  sent_held = refl

  lost_held : finish_of (waiting 2 (SetSynchOutput some_held) fresh) answer.Silent ≡ record { end = Ok None; session = shown unheld rest }
  unfolding is_valid is_closed ledger_least each_from settle_of noted_of conclude_of finish_of
  lost_held = refl

  sent_copy : step_of (order (node_at 2) SynchOutput) (shown unheld rest) ≡ record { end = Ok (Some 4); session = waiting 2 SynchOutput unheld }
  unfolding total written build_for codec_build is_valid is_closed is_waiting is_listed is_unlisted is_off_list test_of order_check is_lacked any_from ledger_least open_exchange transmit_of order_of
  sent_copy = refl

  copied : finish_of (waiting 2 SynchOutput unheld) answer.Clear ≡ record { end = Ok None; session = shown uncopied rest }
  unfolding is_valid is_closed ledger_least each_from settle_of is_giving is_asking noted_of conclude_of finish_of
  copied = refl

  sent_join : step_of (regroup (record { 0 = 2 }) (record { 0 = 0x80 }) false) (shown (ready leads80 (addressed 2)) rest)
      ≡ record { end = Ok (Some 6); session = waiting 2 joins (ready leads80 (addressed 2)) }
  unfolding total written build_for codec_build is_valid is_closed is_waiting has_rival ledger_least any_from is_led is_listed is_unlisted is_off_list test_of regroup_check open_exchange transmit_of regroup_of
  sent_join = refl

  joined : finish_of (waiting 2 joins (ready leads80 (addressed 2))) answer.Clear ≡ record { end = Ok None; session = shown (ready leads80 joined80) rest }
  unfolding is_valid is_closed ledger_least each_from settle_of is_giving is_asking noted_of conclude_of finish_of
  joined = refl

  led : step_of (regroup (record { 0 = 2 }) (record { 0 = 0x80 }) true) (shown (ready leads80 (addressed 2)) rest)
      ≡ record { end = Err Led; session = shown (ready leads80 (addressed 2)) rest }
  unfolding is_valid is_closed is_waiting has_rival ledger_least any_from is_led is_listed is_unlisted is_off_list test_of regroup_check regroup_of
  led = refl

  -- the walk's first Set Address
  sent_first : step_of next (shown up rest) ≡ record { end = Ok (Some 6); session = waiting 1 (SetAddress (given_place 1)) up }
  unfolding total written build_for codec_build is_valid is_closed is_waiting is_ask_due any_from ledger_least is_listed is_unlisted is_off_list test_of next_check open_exchange transmit_of next_of
  sent_first = refl

  lost_first : finish_of (waiting 1 (SetAddress (given_place 1)) up) answer.Silent ≡ record { end = Ok None; session = shown unplaced rest }
  unfolding is_valid is_closed ledger_least each_from settle_of noted_of conclude_of finish_of
  lost_first = refl

  not_next : step_of next (shown unplaced rest) ≡ record { end = Err NotDue; session = shown unplaced rest }
  unfolding is_valid is_closed is_waiting is_ask_due any_from ledger_least is_listed is_unlisted is_off_list test_of next_check next_of
  not_next = refl

  asked : step_of ask (shown unplaced rest) ≡ record { end = Ok (Some 4); session = waiting 1 Nop unplaced }
  unfolding total written build_for codec_build is_valid is_closed is_waiting is_ask_due any_from ledger_least is_listed is_unlisted is_off_list test_of ask_check open_exchange transmit_of ask_of
  asked = refl

  confirmed : finish_of (waiting 1 Nop unplaced) answer.Clear ≡ record { end = Ok None; session = shown confirmed1 rest }
  unfolding is_valid is_closed is_ask_due ledger_least each_from settle_of is_giving is_asking noted_of conclude_of finish_of
  confirmed = refl

  pub further : Further rest
  unfolding total ends_in_sum frame_of is_intact read_of
  further =
      refl and
      refl and
      (rw (sent_held, lost_held, sent_copy, clear (waiting 2 SynchOutput unheld), copied) refl) and
      (rw (sent_join, clear (waiting 2 joins (ready leads80 (addressed 2))), joined) refl) and
      (rw led refl) and
      (rw (sent_first, lost_first, not_next) refl) and
      (rw (sent_first, lost_first, asked, clear (waiting 1 Nop unplaced), confirmed) refl) and
      tt
