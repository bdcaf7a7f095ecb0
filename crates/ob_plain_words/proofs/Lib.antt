mod WordsInOrder
