-- The marked examples hold: every one by computation. Assumes nothing.
use mathlib.Core.Path.{refl}
use Rattle.integers.specs.Gcd.{gcd}
use Rattle.integers.specs.Lists.{filter, pairs}
use Rattle.rows.specs.Rows.{with_entry, dot, divisor, divided, all_small, all_zero, limited, constant, divided_down, plus, times, entry_order, row_order}
use Rattle.sets.specs.Outcomes.{and_then}
use Rattle.sets.specs.Sets.{insert, joined_all, within_limit, joined, same_row, stands_in, same_rows}
use Rattle.removal.specs.Removal.{untouched, uppers, lowers, remaining, removed, all_removed}
use Rattle.models.specs.Automaton.{automaton, padded, rows_of, reset_entries, edges_from}
use Rattle.models.specs.Acceptance.{accepted, header_fits, reference_fits, transition_declared, owner_declared, entry_declared, entries_declared, row_declared, terms_fit, rows_accepted, reference_meets, reference_accepted}
use Rattle.method.specs.Method.{not_below_zero, equal_zero, sum, shifted, passed, stayed, start, successor, shadow, broken, any_negation, same_state, known, leaving, or_halt, keep_state, begun, judged_whole, refined, judged_broken, judged, advanced, explored, method}
use Rattle.frames.specs.Hex.{digit, pair, bytes_of, word, lines, digits_of, line_of, big_endian}
use Rattle.frames.specs.Reading.{entries_of, due_length, is_due, placed, row_declared as frame-declared, entries_rise, terms_fit as frame-terms-fit, header_frame, reference_frame, transition_frame, row_frame, content, frame, line, all_lines, tables, read}
use Rattle.frames.specs.Writing.{terms_of, term_number, row_bytes, row_lines, answer_bytes, answer_lines}
use Rattle.method.specs.Entry.{run, run_hex}
use Rattle.guarantee.specs.Marked.{Marked}

pub marked : Marked
unfolding gcd filter pairs with_entry dot divisor divided all_small all_zero limited constant divided_down plus times entry_order row_order and_then insert joined_all within_limit joined same_row stands_in same_rows untouched uppers lowers remaining removed all_removed automaton padded rows_of reset_entries edges_from accepted header_fits reference_fits transition_declared owner_declared entry_declared entries_declared row_declared terms_fit rows_accepted reference_meets reference_accepted not_below_zero equal_zero sum shifted passed stayed start successor shadow broken any_negation same_state known leaving or_halt keep_state begun judged_whole refined judged_broken judged advanced explored method run digit pair bytes_of word lines digits_of line_of big_endian entries_of due_length is_due placed frame-declared entries_rise frame-terms-fit header_frame reference_frame transition_frame row_frame content frame line all_lines tables read terms_of term_number row_bytes row_lines answer_bytes answer_lines run_hex
marked = record {
  m1 = refl;
  m6 = refl;
  m7 = refl;
  m2 = refl;
  m3 = refl;
  m4 = refl;
  m8_taken = refl;
  m8_large = refl;
  m5 = refl;
  m9 = refl;
  m9_hex = refl;
  m10 = refl;
  empty_input = refl;
  budget_0 = refl;
  budget_3 = refl;
  budget_4 = refl;
  over_2 = refl;
}
