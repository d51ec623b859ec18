-- The example of document 01, "The program", whole, the same by methods 6 and 7, one with a lost hour and one of 13, its example of 11, k with a leading zero, and 6 before 11, computed from the definitions.
use mathlib.Core.List.{flat_map}
use mathlib.Core.Path.{◌≡◌, refl}
use lib.ListN.{replicate}
use Rattle.jumbled.specs.Match.{cc, occurs, sum, evidence, beyond, excess, matches, select, positions}
use Rattle.jumbled.specs.Scan.{scan, singles, backward, forward}
use Rattle.jumbled.specs.Fields.{first, letter_width, field_of, layout_of, width_of, bits, start_value, value_of, top_set, some, overflows}
use Rattle.jumbled.specs.Steps.{count_judged, bam_scan, passes, lacks, ebl_scan, way_of, steps}
use Rattle.jumbled.specs.Refusals.{given, is_method, exact_only, length_tests, lost_tests, tolerance_tests, known_tests, exact_tests, width_tests, input_tests, line_tests, method_tests, pattern_tests, request_tests, program_tests}
use Rattle.program_request.specs.Line.{has, before_first, after_first, digit, method_form, tolerance_form, method_field, tolerance_field, pattern_field, good_line}
use Rattle.program_request.specs.Request.{first_line, request_method, request_tolerance, request_pattern, less_newline, request_text, bad_line}
use Rattle.ascii.specs.Codes.{ascii}
use Rattle.ascii.specs.Decimal.{digits, decimal, decimal_value}
use Rattle.program_lines.specs.Lines.{number_line, header, counts_line, output_text, refusal_text}
use Rattle.program_report.specs.Output.{request_refusal, output}

printed : output (ascii "2 0 abc\nabcxxxabc\n") ≡ ascii "mix abc method 2 k 0\n0\n6\nfound 2 looks 9\n"
unfolding cc occurs sum evidence beyond excess matches select positions scan singles backward first letter_width field_of layout_of width_of bits start_value value_of top_set some overflows bam_scan steps way_of given is_method exact_only length_tests lost_tests tolerance_tests known_tests exact_tests width_tests input_tests line_tests method_tests pattern_tests request_tests program_tests has before_first after_first digit method_form tolerance_form decimal_value first_line method_field tolerance_field pattern_field good_line request_method request_tolerance request_pattern less_newline request_text bad_line request_refusal ascii digits decimal number_line header flat_map counts_line output_text refusal_text output
printed = refl

-- the same record by method 6 (document 02, T-04), and by 7, which is no method's number
printed-by-ebl : output (ascii "6 0 abc\nabcxxxabc\n") ≡ ascii "mix abc method 6 k 0\n0\n6\nfound 2 looks 15\n"
unfolding cc occurs sum evidence beyond excess matches select positions scan singles backward layout_of width_of bits passes lacks ebl_scan steps way_of given is_method exact_only length_tests lost_tests tolerance_tests known_tests exact_tests width_tests input_tests line_tests method_tests pattern_tests request_tests program_tests has before_first after_first digit method_form tolerance_form decimal_value first_line method_field tolerance_field pattern_field good_line request_method request_tolerance request_pattern less_newline request_text bad_line request_refusal ascii digits decimal number_line header flat_map counts_line output_text refusal_text output
printed-by-ebl = refl

unknown-method : output (ascii "7 0 abc\nabcxxxabc\n") ≡ ascii "refused 3\n"
unfolding cc occurs sum evidence beyond excess matches select positions scan singles backward layout_of width_of bits passes lacks ebl_scan steps way_of given is_method exact_only length_tests lost_tests tolerance_tests known_tests exact_tests width_tests input_tests line_tests method_tests pattern_tests request_tests program_tests has before_first after_first digit method_form tolerance_form decimal_value first_line method_field tolerance_field pattern_field good_line request_method request_tolerance request_pattern less_newline request_text bad_line request_refusal ascii digits decimal number_line header flat_map counts_line output_text refusal_text output
unknown-method = refl

-- a lost hour in the record (document 02, T-07), and in the pattern, where k is too large besides
printed-with-lost : output (ascii "1 0 abc\na-c\n") ≡ ascii "mix abc method 1 k 0\n0\nfound 1 looks 3\n"
unfolding cc occurs sum evidence beyond excess matches select positions forward count_judged layout_of width_of bits steps way_of given is_method exact_only length_tests lost_tests tolerance_tests known_tests exact_tests width_tests input_tests line_tests method_tests pattern_tests request_tests program_tests has before_first after_first digit method_form tolerance_form decimal_value first_line method_field tolerance_field pattern_field good_line request_method request_tolerance request_pattern less_newline request_text bad_line request_refusal ascii digits decimal number_line header flat_map counts_line output_text refusal_text output
printed-with-lost = refl

lost-in-the-pattern : output (ascii "1 9 a-c\nabc\n") ≡ ascii "refused 13\n"
unfolding cc occurs given is_method exact_only length_tests lost_tests tolerance_tests known_tests exact_tests width_tests input_tests line_tests method_tests pattern_tests request_tests program_tests has before_first after_first digit method_form tolerance_form decimal_value first_line method_field tolerance_field pattern_field good_line request_method request_tolerance request_pattern less_newline request_text bad_line request_refusal ascii digits decimal number_line header flat_map counts_line output_text refusal_text output
lost-in-the-pattern = refl

no-newline : output (ascii "abc") ≡ ascii "refused 11\n"
unfolding given input_tests line_tests pattern_tests request_tests program_tests has bad_line request_refusal ascii digits decimal number_line refusal_text output
no-newline = refl

leading-zero : output (ascii "2 00 abc\nabc") ≡ ascii "refused 11\n"
unfolding given input_tests line_tests pattern_tests request_tests program_tests has before_first after_first digit method_form tolerance_form first_line method_field tolerance_field good_line bad_line request_refusal ascii digits decimal number_line refusal_text output
leading-zero = refl

-- one byte over the longest input, with no newline: 6 is tested before 11
too_long : output (replicate 16385 97) ≡ ascii "refused 6\n"
unfolding given input_tests line_tests request_tests program_tests request_refusal ascii digits decimal number_line refusal_text output
too_long = refl

-- and at the longest input 11 is given
longest : output (replicate 16384 97) ≡ ascii "refused 11\n"
unfolding given input_tests line_tests request_tests program_tests has bad_line request_refusal ascii digits decimal number_line refusal_text output
longest = refl
