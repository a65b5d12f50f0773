mod ThreeWords
