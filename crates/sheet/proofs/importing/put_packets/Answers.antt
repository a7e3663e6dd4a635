use Rattle.std.proofs.Common.{◌≡◌, ◌∙◌, List, ℕ, ap, refl, rules, subst, sym}
use Rattle.text.specs.Lines.{lines_of}
use Rattle.text.specs.Each.{lines_left}
use Rattle.sheet.specs.Sheet.{packets_in}
use Rattle.sheet.specs.Reading.{sheet_packets}
use Rattle.sheet.proofs.Laying.{Laying, wrote_kept}
use Rattle.sheet.proofs.Imports.{packets_never, packet_some, packet_room, packets_on, packets_done}
use Rattle.sheet.proofs.importing.put_packets.Goals as goal

pub loop-line-init : goal.loop-line-init
loop-line-init c =
    let e : lines_left c.into_iter-line-iterator.result ≡ lines_of c.args.sheet.now = ap lines_left c.into_iter-line-iterator.ensures.into_iter_gives ∙ c.of-line-items.ensures in
    let all : Laying (packets_in (lines_of c.args.sheet.now)) 0 c.args.out.now (sheet_packets c.args.sheet.now c.args.out.now) = record { room = search rules; laid = refl } in
    (refl, refl, subst (λ (x : List (List ℕ)). Laying (packets_in x) 0 c.args.out.now (sheet_packets c.args.sheet.now c.args.out.now)) (sym e) all)

pub returns-in-None-read_line : goal.returns-in-None-read_line
returns-in-None-read_line c = packets_never _ _ _ _ _ _ _ _ _ c.in-Some.ensures.steps c.read_line.ensures c.loop-line.invariant.2 c.in-None-read_line.is

pub put_packet-to-requires : goal.put_packet-to-requires
put_packet-to-requires c =
    let l = c.loop-line in (
      packet_some _ _ _ _ _ _ _ _ _ c.in-Some.ensures.steps c.read_line.ensures l.invariant.2 _ c.in-Some-read_line.is l.invariant.1 _ c.first.ensures.holds,
      packet_room _ _ _ _ _ _ _ _ _ c.in-Some.ensures.steps c.read_line.ensures l.invariant.2 _ c.in-Some-read_line.is l.invariant.1 _ c.first.ensures.holds,
    )

pub loop-line-preserved : goal.loop-line-preserved
loop-line-preserved c =
    let l = c.loop-line in (
      search wrote_kept,
      c.read_line.array_long,
      packets_on _ _ _ _ _ _ _ _ _ c.in-Some.ensures.steps c.read_line.ensures l.invariant.2 _ c.in-Some-read_line.is l.invariant.1 _ c.first.ensures.holds _ _ c.put_packet-to.ensures,
    )

pub returns : goal.returns
returns c = packets_done _ _ _ _ c.in-None.ensures.steps.0 c.loop-line.invariant.2
