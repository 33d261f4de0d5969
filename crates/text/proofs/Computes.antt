-- One name for all that the definitions unfold: a proof that computes says `unfolding computes`.
use Rattle.text.specs.Bytes.{blank, digit, letter, in_sort, run}
use Rattle.text.specs.Forms.{letter_in, part_of, take_run, take_part, x_at, y_at, ending, follow, further, best_to}
use Rattle.text.specs.Names.{value_of, same, place_from, proper, list_fault, label_of, with_label}
use Rattle.text.specs.Reading.{form_record, settled, with_action, with_number, with_label_at, with_second, named, next_of, read_from, read_text}
use Rattle.text.specs.Writing.{digits, written_sign, written_signs, form_of, further_ones, text_of, nameless_from}
use Rattle.text.specs.Answers.{told, fits, reading, records_read, writes, unless_refused, writing, filled, bytes_read, text_written}

unfoldable pub computes : Unit {0}
unfolding blank digit letter in_sort run letter_in part_of take_run take_part x_at y_at ending follow further best_to value_of same place_from proper list_fault label_of with_label form_record settled with_action with_number with_label_at with_second named next_of read_from read_text digits written_sign written_signs form_of further_ones text_of nameless_from told fits reading records_read writes unless_refused writing filled bytes_read text_written
computes = tt
