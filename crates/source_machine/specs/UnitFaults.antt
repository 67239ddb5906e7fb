-- What a unit may be refused for (Core 5.2, volume 6 part G, section 2): the group has no such stream, the unit has more than Max_SDU
-- octets, it hasn't the time that its framing wants, 16 units of the stream wait.
pub data UnitFault : Type 0 where
  NoSuchBis : UnitFault
  UnitTooLong : UnitFault
  TimeOrder : UnitFault
  Backlog : UnitFault
