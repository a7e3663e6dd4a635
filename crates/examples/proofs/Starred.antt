-- The table holds, by computation: packets and numbers at once, a course event by event.
use mathlib.Core.Bool.{Bool, true, false}
use Rattle.std.specs.Prelude.{Ok, Some, None}
use mathlib.Core.List.{List}
use mathlib.Core.Path.{◌≡◌, refl}
use Rattle.buffer.specs.Sum.{total, ends_in_sum}
use Rattle.buffer.specs.Buffer.{written}
use Rattle.packet.specs.Packet.{data_part, frame_of, is_intact, read_of}
use Rattle.packet.specs.Build.{build_of}
use Rattle.command.specs.declared.Command.TheVariants.{SetOutputs}
use Rattle.codec.specs.Reading.{shared_rows, gate_rows, codec_read}
use Rattle.command.specs.Divisors.{is_listed}
use Rattle.codec.specs.Build.{build_for, codec_build}
use Rattle.status.specs.declared.Answer.TheVariants as answer
use Rattle.node.specs.Effect.{divisor_up}
use Rattle.entry.specs.declared.Entry.{Entry}
use Rattle.ledger.specs.Ledger.{ledger_least, each_from, settle_of, any_from, is_lacked, is_unlisted, is_off_list}
use Rattle.session.specs.declared.Exchange.TheVariants.{Idle, Waiting}
use Rattle.session.specs.declared.Session.{Session}
use Rattle.session.specs.Session.{is_valid, is_closed, node_at, given_place}
use Rattle.sending.specs.Sending.{is_waiting, test_of, open_exchange, transmit_of}
use Rattle.host.specs.Calls.{order_check, order_of}
use Rattle.reports.specs.Report.{is_giving, is_asking, noted_of, conclude_of, finish_of}
use Rattle.examples.specs.Example.{step_of, known_but, entry_with, addressed, pair, shown}
use Rattle.examples.specs.Starred.{outputs5, fresh, doubtful, known5, Starred}
use Rattle.examples.proofs.Rows.{clear, marked, spoilt, ◌and◌}

module _ (rest : List Entry) where
  -- Set Outputs 5 waits at node 2, whose outputs are known or not
  abbrev waiting : Bool → Session
  waiting b = pair 2 (Waiting divisor_up (node_at 2) (SetOutputs 5)) (addressed 1) (entry_with (given_place 2) 0 (known_but b true true)) rest

  sent : (b : Bool) → step_of outputs5 (pair 2 Idle (addressed 1) (entry_with (given_place 2) 0 (known_but b true true)) rest) ≡ record { end = Ok (Some 6); session = waiting b }
  unfolding total written build_for codec_build is_valid is_closed is_waiting is_listed is_unlisted is_off_list test_of order_check is_lacked any_from ledger_least open_exchange transmit_of order_of
  sent b = refl

  lost : finish_of (waiting true) answer.Silent ≡ record { end = Ok None; session = shown doubtful rest }
  unfolding is_valid is_closed ledger_least each_from settle_of noted_of conclude_of finish_of
  lost = refl

  confirmed : finish_of (waiting false) answer.Clear ≡ record { end = Ok None; session = shown known5 rest }
  unfolding is_valid is_closed ledger_least each_from settle_of is_giving is_asking noted_of conclude_of finish_of
  confirmed = refl

  kept : finish_of (waiting true) answer.Marked ≡ record { end = Ok None; session = shown fresh rest }
  unfolding is_valid is_closed noted_of conclude_of finish_of
  kept = refl

  pub starred : Starred rest
  unfolding total ends_in_sum data_part frame_of is_intact read_of build_of shared_rows gate_rows codec_read build_for codec_build
  starred =
      (record { built = λ out. refl; packed = λ out. refl; reads = record { command = 0xE; whole = refl; known = refl } }) and
      (record { built = λ out. refl; packed = λ out. refl; reads = record { command = 0x1; whole = refl; known = refl } }) and
      (record { built = λ out. refl; packed = λ out. refl; reads = record { command = 0x3; whole = refl; known = refl } }) and
      (record { built = λ out. refl; packed = λ out. refl; reads = record { command = 0x6; whole = refl; known = refl } }) and
      (record { built = λ out. refl; packed = λ out. refl; reads = record { command = 0x5; whole = refl; known = refl } }) and
      (record { built = λ out. refl; packed = λ out. refl; reads = record { command = 0x1; whole = refl; known = refl } }) and
      refl and
      refl and
      (record { command = 0xE; whole = refl; known = refl }) and
      (rw (sent true, lost) refl) and
      (rw (sent true, lost, sent false, clear (waiting false), confirmed) refl) and
      (rw (sent true, marked (waiting true), kept) refl) and
      (rw (sent true, spoilt (waiting true), lost) refl) and
      tt
