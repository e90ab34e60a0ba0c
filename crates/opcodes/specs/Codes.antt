-- A cycle as a code of two hex digits: what address it puts on the bus, and which byte it writes (0: it writes none).
-- A fetch has the number of its states for its second digit. 0 is no cycle. Cited by the cycles of each instruction.
use Rattle.std.specs.Prelude.{ℕ}

-- first digit: the opcode and an operand, both at PC; HL; the opcode's pair; WZ, the address read, and one more; SP and
-- one more, one less, two less; the port read; a halt acknowledge, at PC; none
abbrev pub fetch4 : ℕ
fetch4 = 0x14

abbrev pub fetch5 : ℕ
fetch5 = 0x15

abbrev pub operand : ℕ
operand = 0x20

abbrev pub read_hl : ℕ
read_hl = 0x30

abbrev pub read_pair : ℕ
read_pair = 0x40

abbrev pub read_wz : ℕ
read_wz = 0x50

abbrev pub read_wz1 : ℕ
read_wz1 = 0x60

abbrev pub read_sp : ℕ
read_sp = 0x70

abbrev pub read_sp1 : ℕ
read_sp1 = 0x80

abbrev pub input : ℕ
input = 0xB0

abbrev pub halting : ℕ
halting = 0xC0

abbrev pub internal : ℕ
internal = 0xD0

-- second digit: A 1, H 2, L 3, the opcode's register 4, the byte read 5, that and 1 more 6, 1 less 7, PC's high byte 8 and
-- low byte 9, the pair's high byte A and low byte B; C is L with two states more, for XTHL
abbrev pub write_reg : ℕ
write_reg = 0x34

abbrev pub write_byte : ℕ
write_byte = 0x35

abbrev pub write_more : ℕ
write_more = 0x36

abbrev pub write_less : ℕ
write_less = 0x37

abbrev pub write_pair : ℕ
write_pair = 0x41

abbrev pub write_a : ℕ
write_a = 0x51

abbrev pub write_l : ℕ
write_l = 0x53

abbrev pub write_h : ℕ
write_h = 0x62

abbrev pub push_pch : ℕ
push_pch = 0x98

abbrev pub push_pcl : ℕ
push_pcl = 0xA9

abbrev pub push_high : ℕ
push_high = 0x9A

abbrev pub push_low : ℕ
push_low = 0xAB

abbrev pub swap_h : ℕ
swap_h = 0x82

abbrev pub swap_l : ℕ
swap_l = 0x7C

abbrev pub output : ℕ
output = 0xB1
