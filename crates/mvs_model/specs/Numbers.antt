-- The numbers of the machine. Each is defined only here.
use Rattle.std.specs.Prelude.{ℕ, List, [], ◌∷◌}

-- the bytes of a page, and its doublewords. (Assembler Services Guide, virtual storage management)
abbrev pub page_bytes : ℕ
page_bytes = 4096

abbrev pub page_doublewords : ℕ
page_doublewords = 512

-- where the region below begins. (this project's choice)
abbrev pub below_begins : ℕ
below_begins = 0x6000

-- its first page, and its first doubleword
abbrev pub first_page_below : ℕ
first_page_below = 6

abbrev pub first_doubleword_below : ℕ
first_doubleword_below = 0xC00

-- 16 megabytes, where the region above begins. (Assembler Services Guide, 31-bit addressing; that the region begins there is this
-- project's choice)
abbrev pub above_begins : ℕ
above_begins = 0x1000000

-- its first page, and its first doubleword
abbrev pub first_page_above : ℕ
first_page_above = 4096

abbrev pub first_doubleword_above : ℕ
first_doubleword_above = 0x200000

-- the most pages of the two regions. (this project's choice)
abbrev pub most_pages_below : ℕ
most_pages_below = 2048

abbrev pub most_pages_above : ℕ
most_pages_above = 8192

-- how many subpool numbers each task has for itself, from 0 on. (Assembler Services Guide, virtual storage management)
abbrev pub task_numbers : ℕ
task_numbers = 128

-- the two numbers that are the job step task's, whichever task names them. (Assembler Services Guide, virtual storage
-- management; that they are the job step task's is this project's choice)
abbrev pub first_step_number : ℕ
first_step_number = 131

abbrev pub second_step_number : ℕ
second_step_number = 132

-- a bound of all subpool numbers that a program may name
abbrev pub subpool_numbers : ℕ
subpool_numbers = 133

-- how many subpools there are at a time: as many as the tasks' numbers, and two more. (this project's choice)
abbrev pub most_subpools : ℕ
most_subpools = 4098

-- how many tasks are active at a time, and how many cell pools. (this project's choice)
abbrev pub most_tasks : ℕ
most_tasks = 32

abbrev pub most_pools : ℕ
most_pools = 64

-- the most bytes that SHOW prints, and the number of bytes on a line. (this project's choice)
abbrev pub most_shown : ℕ
most_shown = 4096

abbrev pub line_bytes : ℕ
line_bytes = 32

-- the last address of 31 bits, which is also the greatest length that may be asked for. (Assembler Services Guide, 31-bit addressing;
-- Assembler Services Reference, GETMAIN)
abbrev pub last_address : ℕ
last_address = 0x7FFFFFFF

-- the least and the greatest power of two of a boundary. (Assembler Services Reference, GETMAIN)
abbrev pub least_exponent : ℕ
least_exponent = 3

abbrev pub most_exponent : ℕ
most_exponent = 31

-- the least and the most bytes of a cell, the most cells of a part, and the most bytes that PUT stores and that MOVE copies. (this project's choice)
abbrev pub least_cell_bytes : ℕ
least_cell_bytes = 4

abbrev pub most_cell_bytes : ℕ
most_cell_bytes = 65536

abbrev pub most_cells : ℕ
most_cells = 65536

abbrev pub most_put : ℕ
most_put = 100

abbrev pub most_moved : ℕ
most_moved = 65536

-- the greatest user completion code. (Assembler Services Reference, ABEND)
abbrev pub most_user_code : ℕ
most_user_code = 4095

-- the greatest distance from the address of an area, and the most items of a list. (this project's choice)
abbrev pub most_offset : ℕ
most_offset = 33554431

abbrev pub most_items : ℕ
most_items = 16

-- The ranges of operands: a length, the power of two of a boundary, the bytes of a cell, the cells of a part, a user completion code, the
-- bytes that SHOW prints and that MOVE copies, the distance from an area's address, the pages of the two regions.
abbrev pub ranges : List (ℕ × ℕ)
ranges =
    (1, last_address)
    ∷ (least_exponent, most_exponent)
    ∷ (least_cell_bytes, most_cell_bytes)
    ∷ (1, most_cells)
    ∷ (0, most_user_code)
    ∷ (1, most_shown)
    ∷ (1, most_moved)
    ∷ (0, most_offset)
    ∷ (1, most_pages_below)
    ∷ (0, most_pages_above)
    ∷ []

-- the most bytes of a script. (this project's choice)
abbrev pub most_script_bytes : ℕ
most_script_bytes = 16777215
