-- By the tests, in order.
use Rattle.tryrecording.proofs.Forms.{capture_bytes, capture_times, capture_whole}
use Rattle.tryrecording.proofs.form.is_capture.Goals as goal

pub returns-then-byte_count-gt-MOST_CAPTURED : goal.returns-then-byte_count-gt-MOST_CAPTURED
returns-then-byte_count-gt-MOST_CAPTURED c = search capture_bytes

pub returns-then-time_count-gt-MOST_CAPTURED : goal.returns-then-time_count-gt-MOST_CAPTURED
returns-then-time_count-gt-MOST_CAPTURED c = search capture_times

pub returns : goal.returns
returns c = search capture_whole
