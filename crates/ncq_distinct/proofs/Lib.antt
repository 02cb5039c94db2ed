mod ShownTables
