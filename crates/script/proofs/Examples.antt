-- Document 01's example of the bench program, a Set Baud Rate, and the edges of the text's form, come out as the table has them.
use mathlib.Core.List.{map}
use mathlib.Core.Path.{◌≡◌, refl}
use Rattle.buffer.specs.Buffer.{written}
use Rattle.buffer.specs.Sum.{total, ends_in_sum}
use Rattle.packet.specs.Packet.{data_part, frame_of, is_intact}
use Rattle.status.specs.Status.{counts}
use Rattle.codec.specs.Reading.{shared_rows, gate_rows, drive_rows, motion_of, codec_read}
use Rattle.text.specs.Digits.{value_of, decimal_of, read_decimal}
use Rattle.hexadecimal.specs.Digits.{digit_of, character_of}
use Rattle.hexadecimal.specs.Hex.{hex_rest, pair_by, read_pair}
use Rattle.reply.specs.Items.{reply_items}
use Rattle.reply.specs.Reply.{reply_of}
use Rattle.survey.specs.One.{does_act, does_reply, turned, is_ranged}
use Rattle.survey.specs.Chain.{after, replier_in, said}
use Rattle.survey.specs.Delivery.{valid, delivered_to, frame_alone, deliver_of}
use Rattle.table.specs.Table.{table_deliver}
use Rattle.script.specs.Answers.{number_end}
use Rattle.script.specs.Bench.{start_of, play_of, run_of, run_with, rehearse_of}
use Rattle.script.specs.Example.{Rehearsal, paper, paced, edges}

pub example : rehearse_of paper.input ≡ paper.output
unfolding written total ends_in_sum data_part frame_of is_intact counts shared_rows gate_rows drive_rows motion_of codec_read value_of decimal_of read_decimal digit_of character_of hex_rest pair_by read_pair reply_items reply_of does_act does_reply turned is_ranged after replier_in said valid delivered_to frame_alone deliver_of table_deliver number_end start_of play_of run_of run_with rehearse_of
example = refl

pub example_paced : rehearse_of paced.input ≡ paced.output
unfolding written total ends_in_sum data_part frame_of is_intact counts shared_rows gate_rows drive_rows motion_of codec_read value_of decimal_of read_decimal digit_of character_of hex_rest pair_by read_pair reply_items reply_of does_act does_reply turned is_ranged after replier_in said valid delivered_to frame_alone deliver_of table_deliver number_end start_of play_of run_of run_with rehearse_of
example_paced = refl

pub edge : map (λ (e : Rehearsal). rehearse_of e.input) edges ≡ map (λ (e : Rehearsal). e.output) edges
unfolding written total ends_in_sum data_part frame_of is_intact counts shared_rows gate_rows drive_rows motion_of codec_read value_of decimal_of read_decimal digit_of character_of hex_rest pair_by read_pair reply_items reply_of does_act does_reply turned is_ranged after replier_in said valid delivered_to frame_alone deliver_of table_deliver number_end start_of play_of run_of run_with rehearse_of
edge = refl
