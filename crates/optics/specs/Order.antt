-- Glossary
--   order_3   the setting of the program: order 3, five coordinates
use Rattle.answer.specs.declared.Setting.{Setting}

abbrev pub order_3 : Setting
order_3 = record { n = 3; v = 5 }
