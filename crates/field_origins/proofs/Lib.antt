mod NextColumn
