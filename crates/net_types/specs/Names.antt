-- Names: of hosts, and of interfaces, lists and maps.
use Rattle.std.specs.Prelude.{ℕ, ◌==◌, ◌&&◌, ◌||◌, nat_le, Bool, List, length}
use Rattle.std.specs.List.{list_all}

-- a letter or a digit of ASCII, `-`, `.` or `_`
abbrev pub is_host_byte : ℕ → Bool
is_host_byte b =
    (nat_le 97 b && nat_le b 122) || (nat_le 65 b && nat_le b 90) || (nat_le 48 b && nat_le b 57) || (b == 45) || (b == 46) || (b == 95)

-- a byte that is printed and no blank
abbrev pub is_name_byte : ℕ → Bool
is_name_byte b = nat_le 33 b && nat_le b 126

-- 1 to 63 bytes
abbrev pub is_name_long : List ℕ → Bool
is_name_long text = nat_le 1 (length text) && nat_le (length text) 63

-- the name of a host
abbrev pub is_host : List ℕ → Bool
is_host text = is_name_long text && list_all is_host_byte text

-- the name of an interface, a list or a map
abbrev pub is_name : List ℕ → Bool
is_name text = is_name_long text && list_all is_name_byte text
